use Rattle.std.proofs.Common.{◌≡◌, [], ◌∷◌, refl, sym, ap, ◌∙◌}
use Rattle.std.specs.Prelude.{is_some}
use Rattle.zs_query.specs.declared.open_get.OpenGet.{OpenGet}
use Rattle.zs_query.specs.Gets.{fresh, without_get}
use Rattle.zs_query.specs.GetTable.{Asking}
use Rattle.zs_query.proofs.Searching.{find_none}
use Rattle.zs_query.proofs.Standing.{placed_last}
use Rattle.zs_query.proofs.Tabling.{below_more, none_next, below_number, taken_back}
use Rattle.zs_query.proofs.get_table.GetTable.ask_of.Goals as goal

pub open-requires-clause-unused : goal.open-requires-clause-unused
open-requires-clause-unused c =
    ap is_some (find_none (λ (g : OpenGet). g.row.number) c.args.row.number c.self.inside.gets (none_next c.self.inside.next c.args.row.number c.self.inside.gets (c.requires.number ∙ sym (ap (λ (a : Asking). a.next) c.self.view_is)) c.self.invariant))

pub invariant_of-self : goal.invariant_of-self
invariant_of-self c = rw c.in_err-open.ensures.err c.self.invariant

pub invariant_of-self-in-Err : goal.invariant_of-self-in-Err
invariant_of-self-in-Err c =
    let gets = c.self.inside.gets in
    let below = below_number c.self.inside.next c.args.row.number gets (c.requires.number ∙ sym (ap (λ (a : Asking). a.next) c.self.view_is)) c.self.invariant in
    let last = placed_last (λ (g : OpenGet). g.row.number) c.args.row.number (fresh c.args.row ∷ []) gets below in
    let back : c.cancel.new.self ≡ gets = c.cancel.ensures.gets ∙ ap (without_get c.args.row.number) (c.in_ok-open.ensures.ok ∙ last) ∙ taken_back c.args.row gets below in
    rw back c.self.invariant

pub returns-in-Err-clause-same_gets : goal.returns-in-Err-clause-same_gets
returns-in-Err-clause-same_gets c =
    let gets = c.self.inside.gets in
    let below = below_number c.self.inside.next c.args.row.number gets (c.requires.number ∙ sym (ap (λ (a : Asking). a.next) c.self.view_is)) c.self.invariant in
    let last = placed_last (λ (g : OpenGet). g.row.number) c.args.row.number (fresh c.args.row ∷ []) gets below in
    let back : c.cancel.new.self ≡ gets = c.cancel.ensures.gets ∙ ap (without_get c.args.row.number) (c.in_ok-open.ensures.ok ∙ last) ∙ taken_back c.args.row gets below in
    rw back c.self.view_is

pub invariant_of-self-2 : goal.invariant_of-self-2
invariant_of-self-2 c =
    let number = c.requires.number ∙ sym (ap (λ (a : Asking). a.next) c.self.view_is) in
    let last = placed_last (λ (g : OpenGet). g.row.number) c.args.row.number (fresh c.args.row ∷ []) c.self.inside.gets (below_number c.self.inside.next c.args.row.number c.self.inside.gets number c.self.invariant) in
    rw (c.in_ok-open.ensures.ok, last) (below_more c.self.inside.next c.args.row c.self.inside.gets number c.self.invariant)

pub returns-clause-gets : goal.returns-clause-gets
returns-clause-gets c =
    let number = c.requires.number ∙ sym (ap (λ (a : Asking). a.next) c.self.view_is) in
    let last = placed_last (λ (g : OpenGet). g.row.number) c.args.row.number (fresh c.args.row ∷ []) c.self.inside.gets (below_number c.self.inside.next c.args.row.number c.self.inside.gets number c.self.invariant) in
    rw (← c.self.view_is) (rw (c.requires.waits, c.in_ok-open.ensures.ok, last) refl)
