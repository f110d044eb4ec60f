use Rattle.std.proofs.Common.{◌≡◌, [], ◌∷◌, true, refl, sym, ap, ◌∙◌}
use Rattle.std.specs.Prelude.{is_some}
use Rattle.zs_query.specs.declared.open_get.OpenGet.{OpenGet}
use Rattle.zs_query.specs.Gets.{fresh}
use Rattle.zs_query.specs.Asked.{waits}
use Rattle.zs_query.specs.GetTable.{Asking}
use Rattle.zs_query.proofs.Searching.{find_none}
use Rattle.zs_query.proofs.Standing.{placed_last}
use Rattle.zs_query.proofs.Tabling.{below_more, none_next, below_number}
use Rattle.zs_query.proofs.get_table.GetTable.ask.Goals as goal

pub open-requires-clause-unused : goal.open-requires-clause-unused
open-requires-clause-unused c =
    ap is_some (find_none (λ (g : OpenGet). g.row.number) c.args.row.number c.self.inside.gets (none_next c.self.inside.next c.args.row.number c.self.inside.gets (c.requires.number ∙ sym (ap (λ (a : Asking). a.next) c.self.view_is)) c.self.invariant))

pub invariant_of-self-2 : goal.invariant_of-self-2
invariant_of-self-2 c =
    let number = c.requires.number ∙ sym (ap (λ (a : Asking). a.next) c.self.view_is) in
    let last = placed_last (λ (g : OpenGet). g.row.number) c.args.row.number (fresh c.args.row ∷ []) c.self.inside.gets (below_number c.self.inside.next c.args.row.number c.self.inside.gets number c.self.invariant) in
    rw (c.in_ok-open.ensures.ok, last) (below_more c.self.inside.next c.args.row c.self.inside.gets number c.self.invariant)

pub returns-clause-ok : goal.returns-clause-ok
returns-clause-ok c =
    let number = c.requires.number ∙ sym (ap (λ (a : Asking). a.next) c.self.view_is) in
    let last = placed_last (λ (g : OpenGet). g.row.number) c.args.row.number (fresh c.args.row ∷ []) c.self.inside.gets (below_number c.self.inside.next c.args.row.number c.self.inside.gets number c.self.invariant) in
    let waiting : waits c.args.row ≡ true = sym c.waits.ensures ∙ c.if-not-waits.false in
    rw (← c.self.view_is) (rw (waiting, c.in_ok-open.ensures.ok, last) refl)
