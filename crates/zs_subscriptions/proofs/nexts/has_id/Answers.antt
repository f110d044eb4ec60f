use Rattle.std.proofs.Common.{sym}
use Rattle.zs_subscriptions.proofs.Searching.{missing, any_none, any_here}
use Rattle.zs_subscriptions.proofs.nexts.has_id.Goals as goal

pub returns-in-Ok : goal.returns-in-Ok
returns-in-Ok c = sym (any_here (λ id. id) c.args.id c.args.ids.now _ c.in-Ok.ensures.0 c.in-Ok.ensures.1)

pub returns-in-Err : goal.returns-in-Err
returns-in-Err c = sym (any_none (λ id. id) c.args.id c.args.ids.now (missing (λ id. id) c.args.id c.args.ids.now _ c.in-Err.ensures))
