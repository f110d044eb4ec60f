-- What gets are handed of replies, and when.
use Rattle.std.specs.Prelude.{◌≡◌, ℕ, ◌==◌, ◌&&◌, not, nat_le, Bool, false, List, [], ◌∷◌, ◌++◌, filter, is_some, Option, Some, None, if◌then◌else◌}
use Rattle.std.specs.List.{AllByRecursion, flat_map}
use Rattle.zs_sample.specs.Reply.{Replied}
use Rattle.zs_wire.specs.declared.body.Value.{Value}
use Rattle.zs_wire.specs.declared.request.ConsolidationMode.{ConsolidationMode}
use Rattle.zs_wire.specs.declared.request.ConsolidationMode.TheVariants as by
use Rattle.zs_wire.specs.declared.response.Answered.{Answered}
use Rattle.zs_wire.specs.declared.response.Answered.TheVariants.{Reply as with_value, Err as with_error}
use Rattle.zs_wire.specs.declared.response.Response.{Response}
use Rattle.zs_query.specs.declared.get_row.GetRow.{GetRow}
use Rattle.zs_query.specs.declared.open_get.OpenGet.{OpenGet}
use Rattle.zs_query.specs.Types.{QueryValue}
use Rattle.zs_query.specs.declared.side.Side.{Side}
use Rattle.zs_query.specs.Asked.{News, ReplyTo, FinalOf, AtMoment, Asked, waiting, is_open, is_for, replies_in}
use Rattle.zs_query.specs.Gets.{get_at, other_side, wants, timeout_error}
use Rattle.zs_query.specs.Kept.{passes_all}
use Rattle.zs_query.specs.Laws.{kept_in}
use Rattle.zs_query.specs.Unfinished.{value_at}
use Rattle.zs_events.specs.declared.event.Event.{Event}
use Rattle.zs_events.specs.declared.turn.Effect.{Effect}
use Rattle.zs_events.specs.declared.turn.Effect.TheVariants.{Hand}
use Rattle.zs_events.specs.declared.turn.HandOver.TheVariants.{Reply}
use Rattle.zs_events.specs.declared.turn.Kind.TheVariants.{Get}
use Rattle.zs_events.specs.declared.turn.Refusal.{Refusal}
use Rattle.zs_events.specs.Kinds.{ToGets, NoGet, Answers, ToValues, AnswersError, row_of}
use Rattle.zs_model.specs.declared.settings.Settings.{Settings}
use Rattle.zs_model.specs.Answers.{local_error}
use Rattle.zs_model.specs.Causes.{refusal_of}
use Rattle.zs_model.specs.Entry.{Entry, is_closed}
use Rattle.zs_model.specs.Gets.{asked, open_now, news_of, error_reply}
use Rattle.zs_model.specs.HeldKeys.{named_text}
use Rattle.zs_model.specs.Live.{to_gets_of}
use Rattle.zs_model.specs.Past.{past_of}
use Rattle.zs_model.specs.Values.{values_now}
use Rattle.zs_model.specs.Effects.{effects}

-- the replies that effects hand to the get of a number, the first first
abbrev pub handed_at : ℕ → Effect → List Replied
handed_at n (Hand (Reply Get number reply)) = if number == n then reply ∷ [] else []
handed_at n effect = []

abbrev pub handed_to : ℕ → List Effect → List Replied
handed_to n fx = flat_map (handed_at n) fx

-- what a get is handed at once of a reply that it takes, by its mode: in `None` always, in `Monotonic` where no reply before it on its key is above it, and
-- in `Latest` never
abbrev pub handed_now : ConsolidationMode → Bool → Replied → List Replied
handed_now by.Auto pass reply = reply ∷ []
handed_now by.None pass reply = reply ∷ []
handed_now by.Monotonic pass reply = if pass then reply ∷ [] else []
handed_now by.Latest pass reply = []

-- what a get keeps for its end, of the replies that it has had
abbrev pub kept_by : Asked → List Replied
kept_by a = kept_in a.row.mode (replies_in a.row a.since)

-- a get that waits for that side and for no other
abbrev pub is_last : Side → GetRow → Bool
is_last side row = wants side row && not (wants (other_side side) row)

-- what an open get is handed of what it hears: a reply by its mode; at its last final what it keeps; at its deadline that, and then the
-- error that says so
abbrev pub handed_by : Asked → News → List Replied
handed_by a (ReplyTo number reply) = if is_for a.row number reply then handed_now a.row.mode (passes_all (replies_in a.row a.since) reply) reply else []
handed_by a (FinalOf number side) = if a.row.number == number && is_last side (waiting a) then kept_by a else []
handed_by a (AtMoment moment) = if nat_le a.row.deadline moment then kept_by a ++ timeout_error ∷ [] else []
handed_by a news = []

-- an error is handed to its get at once: that of a response, and that of a query value
abbrev pub error_of : ℕ → Response → Answered → List Replied
error_of n response (with_value body) = []
error_of n response (with_error value) = if response.rid == n then error_reply response value ∷ [] else []

abbrev pub error_by : ℕ → List OpenGet → ℕ → Option QueryValue → Value → List Replied
error_by zid gets n None error = []
error_by zid gets n (Some v) error = if v.row.local && is_some (get_at v.row.rid gets) && v.row.rid == n then local_error zid v.queryable error ∷ [] else []

abbrev pub errors_by : ℕ → List OpenGet → List QueryValue → ℕ → ToGets → ToValues → List Replied
errors_by zid gets values n (Answers response) does = error_of n response response.answered
errors_by zid gets values n NoGet (AnswersError value error) = error_by zid gets n (value_at value values) error
errors_by zid gets values n to does = []

-- what gets hear of an event
abbrev pub heard_at : Settings → List Entry → Event → News
heard_at s past e = news_of s.zid (values_now past) (to_gets_of past e) (row_of e).to_values (named_text past e)

-- where it is accepted by an open session
abbrev pub accepted_alone : Option Refusal → Bool → List Replied → List Replied
accepted_alone None false replies = replies
accepted_alone refusal closed replies = []

-- an event hands an open get just what it hears, and the errors that are its own
abbrev pub GetsAreHanded : Type 0
GetsAreHanded =
    (s : Settings) (h : List Event) (e : Event)
    → AllByRecursion (λ a. handed_to a.row.number (effects s h e).effects
    ≡ accepted_alone (refusal_of s (past_of s h) e) (is_closed (past_of s h))
    (handed_by a (heard_at s (past_of s h) e) ++ errors_by s.zid (open_now s (past_of s h)) (values_now (past_of s h)) a.row.number (to_gets_of (past_of s h) e) (row_of e).to_values))
    (filter is_open (asked s (past_of s h)))

-- and one that is not open nothing
abbrev pub OthersAreHandedNothing : Type 0
OthersAreHandedNothing = (s : Settings) (h : List Event) (e : Event) (n : ℕ) → is_some (get_at n (open_now s (past_of s h))) ≡ false → handed_to n (effects s h e).effects ≡ []
