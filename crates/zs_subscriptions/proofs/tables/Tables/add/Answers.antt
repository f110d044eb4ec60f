use Rattle.std.proofs.Common.{ap, sym, subst, ◌∙◌, refl}
use Rattle.std.specs.Prelude.{All, map, ◌<◌}
use Rattle.zs_subscriptions.specs.Contents.{Contents}
use Rattle.zs_subscriptions.specs.Lists.{noted}
use Rattle.zs_subscriptions.proofs.Indexing.{still_indexed}
use Rattle.zs_subscriptions.proofs.Tabled.{in_order_push, same_contents, held_stays, last_is, last_there}
use Rattle.zs_subscriptions.proofs.tables.Tables.add.Goals as goal

pub add-requires : goal.add-requires
add-requires c = subst (λ (t : Contents). All (λ other. other.id < c.args.row.id) t.rows) (sym c.self.view_is) c.requires

pub unreachable-requires : goal.unreachable-requires
unreachable-requires c =
    last_there c.args.row c.self.inside.subs c.add.new.self (subst (λ (t : Contents). All (λ other. other.id < c.args.row.id) t.rows) (sym c.self.view_is) c.requires) c.in_ok-add.ensures.ok c.in_default.ensures

pub note-requires : goal.note-requires
note-requires c =
    let above = subst (λ (t : Contents). All (λ other. other.id < c.args.row.id) t.rows) (sym c.self.view_is) c.requires in
    rw (last_is c.args.row c.in-Some.row.now c.self.inside.subs c.add.new.self above c.in_ok-add.ensures.ok c.in-Some.ensures) c.in_ok-reserve.ensures.room

pub note-requires-2 : goal.note-requires-2
note-requires-2 c =
    let above = subst (λ (t : Contents). All (λ other. other.id < c.args.row.id) t.rows) (sym c.self.view_is) c.requires in
    rw (last_is c.args.row c.in-Some.row.now c.self.inside.subs c.add.new.self above c.in_ok-add.ensures.ok c.in-Some.ensures) c.in_ok-reserve-2.ensures.room

pub invariant_of-self-2 : goal.invariant_of-self-2
invariant_of-self-2 c =
    let note = map (noted c.args.row.id c.args.row.key.text) in
    let above = subst (λ (t : Contents). All (λ other. other.id < c.args.row.id) t.rows) (sym c.self.view_is) c.requires in
    let its = last_is c.args.row c.in-Some.row.now c.self.inside.subs c.add.new.self above c.in_ok-add.ensures.ok c.in-Some.ensures in
    let own = rw its at c.note.ensures ∙ ap note c.in_ok-reserve.ensures.same in
    let told = rw its at c.note-2.ensures ∙ ap note c.in_ok-reserve-2.ensures.same in
    record {
      order = in_order_push c.args.row _ _ _ _ _ _ c.self.invariant.order above c.in_ok-add.ensures.ok own told;
      indexed = still_indexed _ _ c.self.inside.texts (held_stays (noted c.args.row.id c.args.row.key.text) (λ n. refl) c.self.inside.own _ own) c.self.invariant.indexed;
    }

pub returns-clause-ok : goal.returns-clause-ok
returns-clause-ok c =
    let f = noted c.args.row.id c.args.row.key.text in
    let above = subst (λ (t : Contents). All (λ other. other.id < c.args.row.id) t.rows) (sym c.self.view_is) c.requires in
    let its = last_is c.args.row c.in-Some.row.now c.self.inside.subs c.add.new.self above c.in_ok-add.ensures.ok c.in-Some.ensures in
    rw (← c.self.view_is) (same_contents _ _ _ _ _ _ c.in_ok-add.ensures.ok
    (held_stays f (λ n. refl) c.self.inside.own _ (rw its at c.note.ensures ∙ ap (map f) c.in_ok-reserve.ensures.same))
    (held_stays f (λ n. refl) c.self.inside.told _ (rw its at c.note-2.ensures ∙ ap (map f) c.in_ok-reserve-2.ensures.same)))
