use Rattle.zs_subscriptions.proofs.Keyed.{takers}
use Rattle.zs_subscriptions.proofs.tables.Tables.recipients_into.Goals as goal

pub returns-clause-ok : goal.returns-clause-ok
returns-clause-ok g c =
    rw (← c.self.view_is)
    (takers c.args.local c.args.key.now.text c.self.inside.subs c.counted_matches_into.new.into.items c.keep_takers.new.ids.items c.self.invariant.order.ascending
    c.in_ok-counted_matches_into.ensures.ok c.keep_takers.ensures)
