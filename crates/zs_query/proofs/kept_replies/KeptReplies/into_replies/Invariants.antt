use Rattle.std.proofs.Common.{◌≡◌, ◌+◌, ◌≤◌, ◌++◌, length, vec_len, vec_capacity}
use Rattle.zs_query.proofs.kept_replies.KeptReplies.into_replies.Given as goal

abbrev pub invariant-loop-reply : goal.invariant-loop-reply
invariant-loop-reply l =
    (l.room.items ++ l.reply-iterator ≡ l.initial.reply-iterator)
    × (vec_len l.room + length l.reply-iterator ≤ vec_capacity l.room)
