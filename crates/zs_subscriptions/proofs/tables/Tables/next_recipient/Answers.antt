use Rattle.std.proofs.Common.{◌∙◌, subst}
use Rattle.zs_subscriptions.specs.Ascending.{Ascend}
use Rattle.zs_subscriptions.specs.Contents.{Contents}
use Rattle.zs_subscriptions.proofs.Tabled.{unknown, list_ascends, next_by_number, goes_on}
use Rattle.zs_subscriptions.proofs.Walking.{matches_ascend}
use Rattle.zs_subscriptions.proofs.Keyed.{next_by_tree}
use Rattle.zs_subscriptions.proofs.tables.Tables.next_recipient.Goals as goal

pub unreachable-requires : goal.unreachable-requires
unreachable-requires g c =
    unknown c.in-Number.mapping c.in-Number.number c.self.inside.subs c.self.inside.own c.self.inside.told c.in_default.ensures (rw (c.in-Number.is, ← c.self.view_is) at c.requires)

pub ids_behind-requires : goal.ids_behind-requires
ids_behind-requires g c =
    rw c.deref.ensures.value (list_ascends c.in-Number.mapping c.in-Number.number c.self.inside.subs c.self.inside.own c.self.inside.told _ c.self.invariant.order c.in-Some.ensures)

pub returns-in-Some-clause-next : goal.returns-in-Some-clause-next
returns-in-Some-clause-next g c =
    let first = rw (c.ids_behind.ensures, c.deref.ensures.value) at c.first_by_id.ensures in
    rw (c.in-Number.is, ← c.self.view_is) (λ text meant.
    first ∙ next_by_number c.in-Number.mapping c.in-Number.number c.args.local c.args.after c.self.inside.subs c.self.inside.own c.self.inside.told _ c.self.invariant.order c.in-Some.ensures text meant)

pub first_in_tree-requires-clause-ids : goal.first_in_tree-requires-clause-ids
first_in_tree-requires-clause-ids g c = matches_ascend c.in-Text.key.now.text c.self.inside.subs c.self.invariant.order.ascending

pub returns-in-Text-clause-next : goal.returns-in-Text-clause-next
returns-in-Text-clause-next g c =
    rw (c.in-Text.is, ← c.self.view_is) (λ text meant.
    c.first_in_tree.ensures ∙ next_by_tree c.args.local c.in-Text.key.now.text text c.args.after c.self.inside.subs c.self.invariant.order.ascending meant)

pub returns-in-Some-clause-walk : goal.returns-in-Some-clause-walk
returns-in-Some-clause-walk g c =
    let up = subst (λ (t : Contents). Ascend (λ row. row.id) t.rows) c.self.view_is c.self.invariant.order.ascending in
    goes_on _ c.args.local c.args.after _ c.args.self.now.rows up (returns-in-Some-clause-next g c)

pub returns-in-Text-clause-walk : goal.returns-in-Text-clause-walk
returns-in-Text-clause-walk g c =
    let up = subst (λ (t : Contents). Ascend (λ row. row.id) t.rows) c.self.view_is c.self.invariant.order.ascending in
    goes_on _ c.args.local c.args.after _ c.args.self.now.rows up (returns-in-Text-clause-next g c)
