use Rattle.std.proofs.Common.{◌≡◌, ◌++◌}
use Rattle.zs_query.proofs.kept_replies.KeptReplies.copies.Given as goal

abbrev pub invariant-loop-reply : goal.invariant-loop-reply
invariant-loop-reply l = l.copies.items ++ l.reply-iterator ≡ l.initial.reply-iterator
