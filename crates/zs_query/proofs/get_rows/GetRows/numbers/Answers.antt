use Rattle.std.proofs.Common.{◌≡◌, ℕ, List, IfOk, ◌∙◌, ap, subst}
use Rattle.std.specs.Prelude.{map}
use Rattle.zs_query.specs.declared.open_get.OpenGet.{OpenGet}
use Rattle.zs_query.proofs.Indexed.{numbers_are}
use Rattle.zs_query.proofs.get_rows.GetRows.numbers.Goals as goal

pub returns : goal.returns
returns c = subst (λ (xs : List ℕ). IfOk c.numbers_of.result (λ numbers. numbers.items ≡ xs)) (numbers_are c.self.inside.rows c.self.invariant.numbered ∙ ap (map (λ (g : OpenGet). g.row.number)) c.self.view_is) c.numbers_of.ensures
