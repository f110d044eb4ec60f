-- The open gets of a session, with the counter of their numbers and the moment.
use Rattle.std.specs.Prelude.{ℕ, ◌+◌, List, max}
use Rattle.zs_sample.specs.Reply.{Replied}
use Rattle.zs_query.specs.declared.side.Side.TheVariants.{Local, Network}
use Rattle.zs_query.specs.declared.get_row.GetRow.{GetRow}
use Rattle.zs_query.specs.declared.open_get.OpenGet.{OpenGet}
use Rattle.zs_query.specs.Asked.{ReplyTo, FinalOf, AtMoment, QuerierEnds, CancelledBy, AllEnd, gets_after, opened}

-- the open gets, the number that the next one draws, and the greatest moment that has come
pub record Asking : Type 0 where
  pub gets : List OpenGet
  pub next : ℕ
  pub moment : ℕ

-- with one get more, unless it waits for nobody
abbrev pub with_asked : GetRow → Asking → Asking
with_asked row a = record a { gets = opened row a.gets; next = a.next + 1 }

-- behind a reply, the network's final, this session's, a moment, the end of a querier, a cancellation token that cancels, and the end of all
abbrev pub with_reply : ℕ → Replied → Asking → Asking
with_reply number reply a = record a { gets = gets_after (ReplyTo number reply) a.gets }

abbrev pub with_final : ℕ → Asking → Asking
with_final number a = record a { gets = gets_after (FinalOf number Network) a.gets }

abbrev pub with_local_final : ℕ → Asking → Asking
with_local_final number a = record a { gets = gets_after (FinalOf number Local) a.gets }

abbrev pub at_moment : ℕ → Asking → Asking
at_moment moment a = record a { gets = gets_after (AtMoment moment) a.gets; moment = max a.moment moment }

abbrev pub without_querier : ℕ → Asking → Asking
without_querier id a = record a { gets = gets_after (QuerierEnds id) a.gets }

abbrev pub without_cancellation_token : ℕ → Asking → Asking
without_cancellation_token cancellation_token a = record a { gets = gets_after (CancelledBy cancellation_token) a.gets }

abbrev pub all_ended : Asking → Asking
all_ended a = record a { gets = gets_after AllEnd a.gets }
