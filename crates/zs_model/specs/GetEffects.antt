-- What an accepted event brings about for gets.
use Rattle.std.specs.Prelude.{ℕ, List, [], ◌∷◌, ◌++◌, map, filter, Option, Some, None, if◌then◌else◌}
use Rattle.std.specs.List.{flat_map}
use Rattle.zs_sample.specs.Reply.{Replied}
use Rattle.zs_wire.specs.declared.message.Message.TheVariants.{Request as request_message}
use Rattle.zs_wire.specs.declared.response.Answered.{Answered}
use Rattle.zs_wire.specs.declared.response.Answered.TheVariants.{Reply, Err as Error}
use Rattle.zs_wire.specs.declared.response.Response.{Response}
use Rattle.zs_wire.specs.declared.wire_expr.WireExpr.{WireExpr}
use Rattle.zs_subscriptions.specs.Recipients.{has_network}
use Rattle.zs_query.specs.declared.side.Side.TheVariants.{Network}
use Rattle.zs_query.specs.declared.open_get.OpenGet.{OpenGet}
use Rattle.zs_query.specs.declared.outcome.Outcome.{Outcome}
use Rattle.zs_query.specs.declared.outcome.Outcome.TheVariants as outcome
use Rattle.zs_query.specs.declared.outcome.Peek.{Peek}
use Rattle.zs_query.specs.declared.outcome.Peek.TheVariants as peek
use Rattle.zs_query.specs.Gets.{get_at, peek_at, final_outcome, ends_at, timeout_error}
use Rattle.zs_query.specs.Asked.{News, QuerierEnds, CancelledBy, is_end}
use Rattle.zs_events.specs.declared.turn.Effect.{Effect}
use Rattle.zs_events.specs.declared.turn.Effect.TheVariants.{Send, Hand, End}
use Rattle.zs_events.specs.declared.turn.HandOver.TheVariants.{Reply as reply_for, Query as query_for}
use Rattle.zs_query.specs.QueryData.{query_of}
use Rattle.zs_query.specs.Types.{QueryValue}
use Rattle.zs_events.specs.declared.turn.Kind.TheVariants.{Get as get_kind}
use Rattle.zs_model.specs.Sends.{OwnKeys, wire_form, declaration_of}
use Rattle.zs_events.specs.Kinds.{NamedKey, Question, ToGets, NoGet, Asks, AsksBy, Answers, EndsSide, Reaches, EndsQuerier, Cancels, EndsAll}
use Rattle.zs_model.specs.Questions.{request_of}
use Rattle.zs_model.specs.Gets.{sample_reply, error_reply}
use Rattle.zs_model.specs.LivelinessEffects.{hand_answer, end_asking, cancelled_ends, asking_ends}
use Rattle.zs_tables.specs.LivelinessGets.{over_at}
use Rattle.zs_tables.specs.Types.{LivelinessGet}

-- a reply for the get of a number
abbrev pub hand_reply : ℕ → Replied → Effect
hand_reply number reply = Hand (reply_for get_kind number reply)

-- the end of that get
abbrev pub end_get : ℕ → Effect
end_get number = End get_kind number

-- a query for the queryable that is handed the value
abbrev pub hand_query : QueryValue → Effect
hand_query v = Hand (query_for v.queryable v.value (query_of v.row))

-- a get that the network answers is sent
abbrev pub request_sends : ℕ → WireExpr → ℕ → Question → List Effect
request_sends default wire number question =
    if has_network question.settings.destination then Send (request_message (request_of default wire number question)) ∷ [] else []

-- one that no queryable of this session answers ends at once, if the network doesn't either
abbrev pub unmet_effects : ℕ → WireExpr → ℕ → Question → List Effect
unmet_effects default wire number question =
    if has_network question.settings.destination then Send (request_message (request_of default wire number question)) ∷ [] else end_get number ∷ []

-- what a get brings about that drew these values: it is handed to a queryable with each of them
abbrev pub ask_effects : ℕ → WireExpr → ℕ → Question → List QueryValue → List Effect
ask_effects default wire number question [] = unmet_effects default wire number question
ask_effects default wire number question (v ∷ values) = request_sends default wire number question ++ map hand_query (v ∷ values)

-- given what is known of declared keys, its key, the values and the number that it drew, and the text of its key
abbrev pub asked_effects : ℕ → OwnKeys → NamedKey → List QueryValue → Option ℕ → Option (List ℕ) → Question → List Effect
asked_effects default k key values (Some number) (Some text) question =
    ask_effects default (wire_form k text (declaration_of k text key)) number question values
asked_effects default k key values number text question = []

-- a reply is handed on where it comes to that
abbrev pub reply_effects : Peek → ℕ → Replied → List Effect
reply_effects peek.Handed number reply = hand_reply number reply ∷ []
reply_effects peek.Unknown number reply = []
reply_effects peek.Unmatched number reply = []
reply_effects peek.Kept number reply = []
reply_effects peek.Dropped number reply = []

-- an error is always handed on
abbrev pub response_effects : List OpenGet → Response → Answered → Option (List ℕ) → List Effect
response_effects gets response (Reply body) None = []
response_effects gets response (Reply body) (Some text) =
    reply_effects (peek_at (get_at response.rid gets) (sample_reply text response body)) response.rid (sample_reply text response body)
response_effects gets response (Error value) text = hand_reply response.rid (error_reply response value) ∷ []

-- the last final hands out what was kept, and ends the get
abbrev pub final_effects : ℕ → Outcome → List Effect
final_effects number (outcome.Ended replies) = map (hand_reply number) replies ++ end_get number ∷ []
final_effects number out = []

-- what one end hands out
abbrev pub last_hands : ℕ × List Replied → List Effect
last_hands end = map (hand_reply end.0) end.1

-- all that these ends hand out and the errors for these gets of tokens, and then the ends of both
abbrev pub ends_effects : List (ℕ × List Replied) → List ℕ → List Effect
ends_effects ends over =
    flat_map last_hands ends ++ map (hand_answer timeout_error) over ++ map end_get (map (λ end. end.0) ends) ++ map end_asking over

-- the numbers of the gets that news ends, whatever is missing, and the ends alone
abbrev pub ended_numbers : News → List OpenGet → List ℕ
ended_numbers news gets = map (λ g. g.row.number) (filter (λ g. is_end g.row news) gets)

abbrev pub cut_effects : News → List OpenGet → List Effect
cut_effects news gets = map end_get (ended_numbers news gets)

-- what an event that asks nothing brings about where these gets are open, and these of tokens, given the text of its key
abbrev pub told_effects : List OpenGet → List LivelinessGet → Option (List ℕ) → ToGets → List Effect
told_effects gets asking text NoGet = []
told_effects gets asking text (Asks question) = []
told_effects gets asking text (AsksBy id question) = []
told_effects gets asking text (Answers response) = response_effects gets response response.answered text
told_effects gets asking text (EndsSide rid) = final_effects rid (final_outcome Network (get_at rid gets))
told_effects gets asking text (Reaches moment) = ends_effects (ends_at moment gets) (over_at moment asking)
told_effects gets asking text (EndsQuerier id) = cut_effects (QuerierEnds id) gets
told_effects gets asking text (Cancels token) = cut_effects (CancelledBy token) gets ++ cancelled_ends token asking
told_effects gets asking text EndsAll = map end_get (map (λ g. g.row.number) gets) ++ asking_ends asking

-- and one that asks a get
abbrev pub request_effects : ℕ → OwnKeys → NamedKey → List QueryValue → Option ℕ → Option (List ℕ) → ToGets → List Effect
request_effects default k key values number text (Asks question) = asked_effects default k key values number text question
request_effects default k key values number text to = []

-- the same with what the event brings about beside: the close and the end of a querier bring about both
abbrev pub with_gets : ToGets → List Effect → List Effect → List Effect → List Effect
with_gets NoGet others asked told = others
with_gets (Asks question) others asked told = asked
with_gets (AsksBy id question) others asked told = others
with_gets (Answers response) others asked told = told
with_gets (EndsSide rid) others asked told = told
with_gets (Reaches moment) others asked told = told
with_gets (EndsQuerier id) others asked told = others ++ told
with_gets (Cancels token) others asked told = told
with_gets EndsAll others asked told = others ++ told
