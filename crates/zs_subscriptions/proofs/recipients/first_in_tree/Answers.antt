use Rattle.std.proofs.Common.{sym}
use Rattle.zs_subscriptions.specs.Recipients.{matches}
use Rattle.zs_subscriptions.specs.Lists.{takes_by_id}
use Rattle.zs_subscriptions.proofs.Keyed.{sought_start, sought_found, sought_on, sought_fewer, sought_none}
use Rattle.zs_subscriptions.proofs.recipients.first_in_tree.Goals as goal

pub loop-id-init : goal.loop-id-init
loop-id-init g c =
    sought_start (takes_by_id c.args.local c.args.rows.now) (matches c.args.key.now.text c.args.rows.now) c.args.after

pub returns-then-takes_by_id : goal.returns-then-takes_by_id
returns-then-takes_by_id g c =
    sought_found (takes_by_id c.args.local c.args.rows.now) (matches c.args.key.now.text c.args.rows.now) c.args.after c.loop-id.last c.in-Some.id
    c.loop-id.invariant c.requires.ids c.in-Some.ensures.least (sym c.if-takes_by_id.ensures)

pub loop-id-smaller : goal.loop-id-smaller
loop-id-smaller g c =
    sought_fewer (matches c.args.key.now.text c.args.rows.now) c.loop-id.last c.in-Some.id c.requires.ids c.in-Some.ensures.least

pub loop-id-preserved : goal.loop-id-preserved
loop-id-preserved g c =
    sought_on (takes_by_id c.args.local c.args.rows.now) (matches c.args.key.now.text c.args.rows.now) c.args.after c.loop-id.last c.in-Some.id
    c.loop-id.invariant c.requires.ids c.in-Some.ensures.least (sym c.if-takes_by_id.ensures)

pub returns : goal.returns
returns g c =
    sought_none (takes_by_id c.args.local c.args.rows.now) (matches c.args.key.now.text c.args.rows.now) c.args.after c.loop-id.last
    c.loop-id.invariant c.requires.ids c.in_default.ensures.least
