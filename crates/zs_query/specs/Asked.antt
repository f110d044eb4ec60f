-- Gets as they were asked, and what each has heard since: by these alone it is told which gets are open, and what they keep.
use Rattle.std.specs.Prelude.{◌≡◌, ℕ, ◌==◌, ◌&&◌, ◌||◌, nat_le, Bool, true, false, not, List, [], ◌∷◌, ◌++◌, map, filter, if◌then◌else◌}
use Rattle.std.specs.List.{list_any}
use Rattle.zs_sample.specs.Reply.{Replied}
use Rattle.zs_query.specs.declared.side.Side.{Side}
use Rattle.zs_query.specs.declared.side.Side.TheVariants.{Local, Network}
use Rattle.zs_query.specs.declared.get_row.GetRow.{GetRow}
use Rattle.zs_query.specs.declared.open_get.OpenGet.{OpenGet}
use Rattle.zs_query.specs.Ascending.{Ascend}
use Rattle.zs_query.specs.Marks.{key_of}
use Rattle.zs_query.specs.Gets.{get_at, with_get, fresh, takes_key, replied, final_outcome, after_final, is_due, names}
use Rattle.zs_query.specs.Laws.{get_after}

-- what gets hear of an event: nothing, a reply with a sample to the get of that number, the final of a side for it, a moment, the
-- end of a querier, a cancellation token that cancels, or that all end
pub data News : Type 0 where
  Quiet : News
  ReplyTo : (number : ℕ) → (reply : Replied) → News
  FinalOf : (number : ℕ) → (side : Side) → News
  AtMoment : (moment : ℕ) → News
  QuerierEnds : (id : ℕ) → News
  CancelledBy : (cancellation_token : ℕ) → News
  AllEnd : News

-- a get as it was asked, and what it has heard since, the newest first
pub record Asked : Type 0 where
  pub row : GetRow
  pub since : List News

-- the same side
abbrev pub is_side : Side → Side → Bool
is_side Local Local = true
is_side Local Network = false
is_side Network Local = false
is_side Network Network = true

-- whether news is the final of a side for a get
abbrev pub is_final : Side → ℕ → News → Bool
is_final side number (FinalOf n s) = number == n && is_side side s
is_final side number news = false

-- whether a get has had the final of a side
abbrev pub is_done : Side → Asked → Bool
is_done side a = list_any (is_final side a.row.number) a.since

-- its row, with the sides that it waits for still
abbrev pub waiting : Asked → GetRow
waiting a = record a.row {
  local_wanted = a.row.local_wanted && not (is_done Local a);
  network_wanted = a.row.network_wanted && not (is_done Network a);
}

-- whether a row waits for a side
abbrev pub waits : GetRow → Bool
waits row = row.local_wanted || row.network_wanted

-- whether news ends a get, whatever is missing: its deadline is reached, its querier ends, its cancellation token cancels, or all end
abbrev pub is_end : GetRow → News → Bool
is_end row (AtMoment moment) = nat_le row.deadline moment
is_end row (QuerierEnds id) = names id row.querier
is_end row (CancelledBy cancellation_token) = names cancellation_token row.cancellation_token
is_end row AllEnd = true
is_end row news = false

-- a get is open while it waits for a side, and nothing has ended it
abbrev pub is_open : Asked → Bool
is_open a = waits (waiting a) && not (list_any (is_end a.row) a.since)

-- whether a reply to the get of a number reaches this one: it is the one, and it takes the reply's key
abbrev pub is_for : GetRow → ℕ → Replied → Bool
is_for row number reply = row.number == number && takes_key row (key_of reply)

-- the replies that have reached a get
abbrev pub replies_in : GetRow → List News → List Replied
replies_in row [] = []
replies_in row (ReplyTo number reply ∷ since) = if is_for row number reply then reply ∷ replies_in row since else replies_in row since
replies_in row (news ∷ since) = replies_in row since

-- an open get with what its replies make it keep
abbrev pub state : Asked → OpenGet
state a = get_after (waiting a) (replies_in a.row a.since)

-- the open ones of the gets that were asked
abbrev pub open_gets : List Asked → List OpenGet
open_gets asked = map state (filter is_open asked)

-- a get that has heard one thing more
abbrev pub hearing : News → Asked → Asked
hearing news a = record a { since = news ∷ a.since }

-- gets that have all heard one thing more, where it is anything
abbrev pub heard : News → List Asked → List Asked
heard Quiet asked = asked
heard news asked = map (hearing news) asked

-- what news makes of the table of open gets
abbrev pub gets_after : News → List OpenGet → List OpenGet
gets_after Quiet gets = gets
gets_after (ReplyTo number reply) gets = with_get number (replied reply) gets
gets_after (FinalOf number side) gets = after_final (final_outcome side (get_at number gets)) side number gets
gets_after (AtMoment moment) gets = filter (λ g. not (is_due moment g)) gets
gets_after (QuerierEnds id) gets = filter (λ g. not (names id g.row.querier)) gets
gets_after (CancelledBy cancellation_token) gets = filter (λ g. not (names cancellation_token g.row.cancellation_token)) gets
gets_after AllEnd gets = []

-- the table with one get more behind all others, unless it waits for nobody
abbrev pub opened : GetRow → List OpenGet → List OpenGet
opened row gets = if waits row then gets ++ fresh row ∷ [] else gets

-- the table of open gets follows the news
abbrev pub OpenGetsAreTold : Type 0
OpenGetsAreTold =
    (asked : List Asked) (news : News) → Ascend (λ (a : Asked). a.row.number) asked
    → open_gets (heard news asked) ≡ gets_after news (open_gets asked)

-- a get that has ended is never open again, whatever it hears
abbrev pub EndedGetsStay : Type 0
EndedGetsStay = (a : Asked) (news : News) → is_open a ≡ false → is_open (hearing news a) ≡ false
