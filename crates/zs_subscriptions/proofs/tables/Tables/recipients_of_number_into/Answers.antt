use Rattle.std.proofs.Common.{◌≡◌, ap, ◌∙◌}
use Rattle.std.specs.Prelude.{filter}
use Rattle.zs_subscriptions.specs.Lists.{takes_by_id}
use Rattle.zs_subscriptions.proofs.Tabled.{no_key, listed_takers}
use Rattle.zs_subscriptions.proofs.tables.Tables.recipients_of_number_into.Goals as goal

pub unreachable-requires : goal.unreachable-requires
unreachable-requires g c =
    no_key c.args.mapping c.args.number c.self.inside.subs c.self.inside.own c.self.inside.told c.in_default.ensures (rw (← c.self.view_is) at c.requires)

pub returns-clause-ok : goal.returns-clause-ok
returns-clause-ok g c =
    let ids = c.in_ok-copy_ids.ensures.ok ∙ c.deref.ensures.value in
    let taken = c.keep_takers.ensures in
    let out : c.keep_takers.new.ids.items ≡ filter (takes_by_id c.args.local c.self.inside.subs) c.in-Some.row.now.matches.items = taken ∙ ap (filter (takes_by_id c.args.local c.self.inside.subs)) ids in
    rw (← c.self.view_is)
    (listed_takers c.args.mapping c.args.number c.args.local c.self.inside.subs c.self.inside.own c.self.inside.told c.in-Some.row.now
    c.keep_takers.new.ids.items c.self.invariant.order c.in-Some.ensures out)
