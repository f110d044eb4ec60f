-- The gets, told by the events alone: what each accepted event to, and what those that were asked before hear of it.
use Rattle.std.specs.Prelude.{ℕ, max, Bool, true, false, not, ◌&&◌, is_none, List, [], ◌∷◌, Option, Some, None, if◌then◌else◌}
use Rattle.zs_sample.specs.Reply.{Replied}
use Rattle.zs_wire.specs.declared.body.Body.{Body}
use Rattle.zs_wire.specs.declared.body.Value.{Value}
use Rattle.zs_wire.specs.declared.response.Answered.{Answered}
use Rattle.zs_wire.specs.declared.response.Answered.TheVariants.{Reply, Err as Error}
use Rattle.zs_wire.specs.declared.response.Response.{Response}
use Rattle.zs_subscriptions.specs.Recipients.{has_session}
use Rattle.zs_query.specs.declared.side.Side.TheVariants.{Local, Network}
use Rattle.zs_query.specs.declared.open_get.OpenGet.{OpenGet}
use Rattle.zs_query.specs.declared.outcome.Outcome.{Outcome}
use Rattle.zs_query.specs.declared.outcome.Outcome.TheVariants as outcome
use Rattle.zs_query.specs.declared.outcome.Peek.{Peek}
use Rattle.zs_query.specs.declared.outcome.Peek.TheVariants as peek
use Rattle.zs_query.specs.Gets.{get_at, peek_at, final_outcome}
use Rattle.zs_query.specs.Asked.{News, Quiet, ReplyTo, FinalOf, AtMoment, QuerierEnds, CancelledBy, AllEnd, Asked, heard, open_gets}
use Rattle.zs_events.specs.Kinds.{Question, ToGets, NoGet, Asks, AsksBy, Answers, EndsSide, Reaches, EndsQuerier, Cancels, EndsAll, ToValues, row_of}
use Rattle.zs_model.specs.declared.settings.Settings.{Settings}
use Rattle.zs_model.specs.Entry.{Entry}
use Rattle.zs_model.specs.Live.{appended, live_queryables, to_gets_of}
use Rattle.zs_model.specs.Questions.{is_some_met, row_asked}
use Rattle.zs_model.specs.Values.{met_by_get, values_now}
use Rattle.zs_model.specs.Replies.{reply_on, error_on}
use Rattle.zs_model.specs.Answers.{news_by_value}
use Rattle.zs_tables.specs.declared.queryable.QueryableRow.{QueryableRow}
use Rattle.zs_query.specs.Types.{QueryValue}

-- the reply that a response with a value is, given the text of its key, and one with an error
abbrev pub sample_reply : List ℕ → Response → Body → Replied
sample_reply text response body = reply_on text response.qos response.responder body

abbrev pub error_reply : Response → Value → Replied
error_reply response value = error_on response.responder value

-- what gets hear of a response: an error is handed on at once, and changes nothing
abbrev pub response_news : Response → Answered → Option (List ℕ) → News
response_news response (Reply body) None = Quiet
response_news response (Reply body) (Some text) = ReplyTo response.rid (sample_reply text response body)
response_news response (Error value) text = Quiet

-- what gets that were asked before hear of an event
abbrev pub news_by : ToGets → Option (List ℕ) → News
news_by NoGet text = Quiet
news_by (Asks question) text = Quiet
news_by (AsksBy id question) text = Quiet
news_by (Answers response) text = response_news response response.answered text
news_by (EndsSide number) text = FinalOf number Network
news_by (Reaches moment) text = AtMoment moment
news_by (EndsQuerier id) text = QuerierEnds id
news_by (Cancels token) text = CancelledBy token
news_by EndsAll text = AllEnd

-- and of one that says nothing to gets: what it does with the query values of one
abbrev pub news_of : ℕ → List QueryValue → ToGets → ToValues → Option (List ℕ) → News
news_of zid values NoGet does text = news_by_value zid values does text
news_of zid values to does text = news_by to text

-- what a get hears of its own event: where it meets no queryable to ask, this session's final is given at once
abbrev pub own_news : ℕ → Question → List ℕ → List News
own_news number question met = if has_session question.settings.destination && not (is_some_met met) then FinalOf number Local ∷ [] else []

-- the get that an event to at a moment where these queryables are live, given the number that it drew and the text of its key
abbrev pub asked_by : ℕ → ℕ → List QueryableRow → ToGets → Option ℕ → Option (List ℕ) → List Asked
asked_by default moment rows (Asks question) (Some number) (Some text) =
    record { row = row_asked default moment number text question; since = own_news number question (met_by_get rows question text) } ∷ []
asked_by default moment rows to number text = []

-- the moment behind an event: no moment takes back a greater one
abbrev pub moment_by : ToGets → ℕ → ℕ
moment_by (Reaches moment) past = max past moment
moment_by to past = past

-- the greatest moment of all ticks
abbrev pub moment_of : List Entry → ℕ
moment_of [] = 0
moment_of (x ∷ past) = moment_by (row_of x.event).to_gets (moment_of past)

-- all gets that were ever asked, the first one first, each with all that it heard since
abbrev pub asked : Settings → List Entry → List Asked
asked s [] = []
asked s (x ∷ past) =
    appended (heard (news_of s.zid (values_now past) (to_gets_of past x.event) (row_of x.event).to_values x.text) (asked s past))
    (asked_by s.default_timeout (moment_of past) (live_queryables past) (to_gets_of past x.event) x.number x.text)

-- the open ones, with what their replies make them keep
abbrev pub open_now : Settings → List Entry → List OpenGet
open_now s past = open_gets (asked s past)

-- a reply that comes to this means nothing: its get isn't open, or doesn't take its key
abbrev pub is_unmet : Peek → Bool
is_unmet peek.Unknown = true
is_unmet peek.Unmatched = true
is_unmet peek.Kept = false
is_unmet peek.Dropped = false
is_unmet peek.Handed = false

-- so does a final: its get isn't open, or doesn't wait for that side, or no longer
abbrev pub is_unwanted : Outcome → Bool
is_unwanted outcome.Counted = false
is_unwanted (outcome.Ended replies) = false
is_unwanted outcome.Unknown = true
is_unwanted outcome.Unmatched = true
is_unwanted outcome.Kept = true
is_unwanted outcome.Dropped = true
is_unwanted (outcome.Handed reply) = true
is_unwanted outcome.Repeated = true

-- and a response
abbrev pub is_idle_response : List OpenGet → Response → Answered → Option (List ℕ) → Bool
is_idle_response gets response (Reply body) None = false
is_idle_response gets response (Reply body) (Some text) = is_unmet (peek_at (get_at response.rid gets) (sample_reply text response body))
is_idle_response gets response (Error value) text = is_none (get_at response.rid gets)

-- whether an event means nothing to the gets that are open
abbrev pub is_idle : List OpenGet → ToGets → Option (List ℕ) → Bool
is_idle gets (Answers response) text = is_idle_response gets response response.answered text
is_idle gets (EndsSide number) text = is_unwanted (final_outcome Network (get_at number gets))
is_idle gets to text = false
