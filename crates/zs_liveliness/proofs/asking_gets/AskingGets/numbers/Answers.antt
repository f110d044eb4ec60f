use Rattle.std.proofs.Common.{◌≡◌, ℕ, List, IfOk, ◌∙◌, ap, subst}
use Rattle.std.specs.Prelude.{map}
use Rattle.zs_liveliness.specs.declared.liveliness_get.LivelinessGet.{LivelinessGet}
use Rattle.zs_liveliness.proofs.Asking.{numbers_are}
use Rattle.zs_liveliness.proofs.asking_gets.AskingGets.numbers.Goals as goal

pub returns : goal.returns
returns c = subst (λ (xs : List ℕ). IfOk c.numbers_of.result (λ numbers. numbers.items ≡ xs)) (numbers_are c.self.inside.gets c.self.invariant.numbered ∙ ap (map (λ (g : LivelinessGet). g.number)) c.self.view_is) c.numbers_of.ensures
