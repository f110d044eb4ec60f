use Rattle.std.proofs.Common.{rules}
use Rattle.zs_subscriptions.proofs.Indexing.{left_empty}
use Rattle.zs_subscriptions.proofs.texts.leave_text.Goals as goal

pub returns-then-take_from : goal.returns-then-take_from
returns-then-take_from c =
    left_empty c.args.texts.now c.take_from.new.texts _ c.args.text.now c.args.number c.take_from.ensures.left (c.if-take_from.ensures.none (search rules)) c.remove.ensures.updates
