-- What gets bring about tells of no refusal and no sample handed to a subscriber, and its texts are plain: each reply that an open
-- get has heard came with a plain event.
use Rattle.std.proofs.Common.{◌≡◌, ℕ, ◌==◌, ◌++◌, List, [], ◌∷◌, map, filter, Bool, true, false, not, ◌&&◌, Option, Some, None, IfSome, refl}
use Rattle.std.specs.Prelude.{chars, if◌then◌else◌, option_map}
use Rattle.std.specs.List.{AllByRecursion, list_all, flat_map}
use Rattle.std.proofs.lemmas.Bool.{and_from}
use Rattle.zs_sample.specs.Encoding.{encoding_of}
use Rattle.zs_sample.specs.Reply.{Replied}
use Rattle.zs_wire.specs.declared.body.Body.{Body}
use Rattle.zs_wire.specs.declared.body.Value.{Value}
use Rattle.zs_wire.specs.declared.message.Message.TheVariants.{Request}
use Rattle.zs_wire.specs.declared.response.Answered.{Answered}
use Rattle.zs_wire.specs.declared.response.Answered.TheVariants.{Reply, Err as Error}
use Rattle.zs_wire.specs.declared.response.Response.{Response}
use Rattle.zs_wire.specs.declared.wire_expr.WireExpr.{WireExpr}
use Rattle.zs_subscriptions.specs.Recipients.{has_session, has_network}
use Rattle.zs_query.specs.declared.get_row.GetRow.{GetRow}
use Rattle.zs_query.specs.declared.open_get.OpenGet.{OpenGet}
use Rattle.zs_query.specs.declared.outcome.Outcome.TheVariants as outcome
use Rattle.zs_query.specs.declared.outcome.Peek.{Peek}
use Rattle.zs_query.specs.declared.outcome.Peek.TheVariants as peek
use Rattle.zs_query.specs.declared.side.Side.TheVariants.{Local, Network}
use Rattle.zs_query.specs.Kept.{same_key, is_older, firsts, greatest}
use Rattle.zs_query.specs.Laws.{kept_in}
use Rattle.zs_query.specs.Gets.{get_at, peek_at, wants, other_side, final_outcome, is_due, timeout_error, end_of}
use Rattle.zs_query.specs.Asked.{News, Quiet, ReplyTo, FinalOf, AtMoment, QuerierEnds, CancelledBy, AllEnd, Asked, is_open, is_for, replies_in, state, hearing, heard}
use Rattle.zs_query.proofs.Keeping.{all_firsts}
use Rattle.zs_wire.specs.declared.request.ConsolidationMode.{ConsolidationMode}
use Rattle.zs_wire.specs.declared.request.ConsolidationMode.TheVariants as by
use Rattle.zs_events.specs.declared.turn.Effect.TheVariants.{Send}
use Rattle.zs_events.specs.Kinds.{NamedKey, Question, ToGets, NoGet, Asks, AsksBy, Answers, EndsSide, Reaches, EndsQuerier, Cancels, EndsAll, ToValues, AnswersBy, GivesBack, value_texts, response_texts, row_of}
use Rattle.zs_events.specs.declared.publication.ReplyQuality.{ReplyQuality}
use Rattle.zs_core.specs.Types.{Settings}
use Rattle.zs_core.specs.Entry.{Entry}
use Rattle.zs_core.specs.Live.{appended}
use Rattle.zs_core.specs.Publications.{handed_encoding}
use Rattle.zs_core.specs.Sends.{OwnKeys, wire_form, declaration_of}
use Rattle.zs_core.specs.Questions.{is_some_met, parameters_of, sent_value, request_of}
use Rattle.zs_core.specs.Gets.{sample_reply, response_news, news_by, news_of, own_news, asked_by, moment_of, asked, open_now}
use Rattle.zs_core.specs.GetEffects.{hand_reply, end_get, hand_query, request_sends, ask_effects, asked_effects, reply_effects, response_effects, final_effects, last_hands, ended_numbers, told_effects, request_effects}
use Rattle.zs_core.specs.Live.{live_queryables, to_gets_of}
use Rattle.zs_core.specs.LivelinessEffects.{hand_answer, end_asking, cancelled_ends, asking_ends}
use Rattle.zs_tables.specs.LivelinessGets.{over_at, numbers_with}
use Rattle.zs_tables.specs.Types.{LivelinessGet}
use Rattle.zs_core.specs.Replies.{reply_on}
use Rattle.zs_core.specs.Answers.{quality_of, replier_of, local_reply, news_of_reply, news_of_finished, news_by_value}
use Rattle.zs_core.specs.Values.{met_by_get, values_now}
use Rattle.zs_query.specs.Types.{QueryValue, Finished}
use Rattle.zs_requests.specs.declared.requests.Finished.TheVariants as finished
use Rattle.zs_query.specs.Unfinished.{value_at, finished as finished_by}
use Rattle.zs_query.specs.declared.side.Side.{Side}
use Rattle.zs_tables.specs.declared.queryable.QueryableRow.{QueryableRow}
use Rattle.zs_wire.specs.declared.origin.EntityGlobalId.{EntityGlobalId}
use Rattle.zs_wire.specs.declared.quality.QoSType.{QoSType}
use Rattle.zs_script.specs.Plain.{is_plain, is_plain_text, is_plain_outcome, message_texts}
use Rattle.zs_driving.proofs.Progress.{all_append}
use Rattle.zs_session.proofs.PlainKeys.{IsText, AllPlain, PlainPast, plain_encoding, plain_handed, filter_all, found_all}
use Rattle.zs_session.proofs.PlainValues.{PlainToGets, PlainToValues, PlainValue, to_plain, does_plain, queries_quiet}
use Rattle.zs_session.proofs.PlainParameters.{all_map, parameters_text}
use Rattle.zs_session.proofs.PlainSends.{IsQuiet, AreQuiet, AreTexts, chars_plain, wire_plain}

-- a reply with plain texts
abbrev pub PlainReply : Replied → Type 0
PlainReply reply = is_plain_outcome reply.result ≡ true

abbrev PlainReplies : List Replied → Type 0
PlainReplies replies = AllByRecursion PlainReply replies

-- a reply with a value, and one with an error
pub reply_plain : (text : List ℕ) (qos : QoSType) (replier : Option EntityGlobalId) (body : Body) → IsText text → is_plain_text body.encoding ≡ true
    → PlainReply (reply_on text qos replier body)
reply_plain text qos replier body named plain =
    and_from (is_plain text) (is_plain_text (handed_encoding body.kind body.encoding)) named.0 (plain_handed body.kind body.encoding plain)

-- what gets hear has plain texts
abbrev PlainNews : News → Type 0
PlainNews (ReplyTo number reply) = PlainReply reply
PlainNews news = Unit {0}

response_plain : (response : Response) (answered : Answered) (text : Option (List ℕ)) → IfSome text IsText → AllPlain (response_texts answered)
    → PlainNews (response_news response answered text)
response_plain response (Reply body) None named plain = tt
response_plain response (Reply body) (Some text) named plain = reply_plain text response.qos response.responder body named plain.0
response_plain response (Error value) text named plain = tt

news_plain : (to : ToGets) (text : Option (List ℕ)) → IfSome text IsText → PlainToGets to → PlainNews (news_by to text)
news_plain (Answers response) text named plain = response_plain response response.answered text named plain
news_plain to text named plain = tt

-- also of what is done with query values
news_of_reply_plain : (zid : ℕ) (quality : ReplyQuality) (body : Body) (o : Option QueryValue) (text : Option (List ℕ)) → IfSome text IsText → is_plain_text body.encoding ≡ true
    → PlainNews (news_of_reply zid quality body o text)
news_of_reply_plain zid quality body None text named plain = tt
news_of_reply_plain zid quality body (Some v) None named plain = tt
news_of_reply_plain zid quality body (Some v) (Some text) named plain = go v.row.local
  where
    go : (b : Bool) → PlainNews (if b then ReplyTo v.row.rid (local_reply zid v.queryable v.row quality body text) else Quiet)
    go true = reply_plain text (quality_of quality v.row.qos) (Some (replier_of zid v.queryable)) body named plain
    go false = tt

news_of_finished_plain : (f : Finished) → PlainNews (news_of_finished f)
news_of_finished_plain finished.Unknown = tt
news_of_finished_plain finished.MoreLeft = tt
news_of_finished_plain (finished.Last row) = go row.local
  where
    go : (b : Bool) → PlainNews (if b then FinalOf row.rid Local else Quiet)
    go true = tt
    go false = tt

value_news_plain : (zid : ℕ) (values : List QueryValue) (does : ToValues) (text : Option (List ℕ)) → IfSome text IsText → PlainToValues does
    → PlainNews (news_by_value zid values does text)
value_news_plain zid values (AnswersBy value body quality) text named plain = news_of_reply_plain zid quality body (value_at value values) text named plain
value_news_plain zid values (GivesBack value) text named plain = news_of_finished_plain (finished_by (value_at value values) values)
value_news_plain zid values does text named plain = tt

all_news_plain : (zid : ℕ) (values : List QueryValue) (to : ToGets) (does : ToValues) (text : Option (List ℕ)) → IfSome text IsText → PlainToGets to → PlainToValues does
    → PlainNews (news_of zid values to does text)
all_news_plain zid values NoGet does text named asks says = value_news_plain zid values does text named says
all_news_plain zid values to does text named asks says = news_plain to text named asks

-- so does all that a get has heard
abbrev PlainAsked : Asked → Type 0
PlainAsked a = AllByRecursion PlainNews a.since

all_hear : (news : News) (gets : List Asked) → PlainNews news → AllByRecursion PlainAsked gets → AllByRecursion PlainAsked (map (hearing news) gets)
all_hear news [] plain all = tt
all_hear news (a ∷ gets) plain all = ((plain, all.0), all_hear news gets plain all.1)

heard_plain : (news : News) (gets : List Asked) → PlainNews news → AllByRecursion PlainAsked gets → AllByRecursion PlainAsked (heard news gets)
heard_plain Quiet gets plain all = all
heard_plain (ReplyTo number reply) gets plain all = all_hear (ReplyTo number reply) gets plain all
heard_plain (FinalOf number side) gets plain all = all_hear (FinalOf number side) gets plain all
heard_plain (AtMoment moment) gets plain all = all_hear (AtMoment moment) gets plain all
heard_plain (QuerierEnds id) gets plain all = all_hear (QuerierEnds id) gets plain all
heard_plain (CancelledBy token) gets plain all = all_hear (CancelledBy token) gets plain all
heard_plain AllEnd gets plain all = all_hear AllEnd gets plain all

own_plain : (number : ℕ) (question : Question) (met : List ℕ) → AllByRecursion PlainNews (own_news number question met)
own_plain number question met = go (has_session question.settings.destination && not (is_some_met met))
  where
    go : (b : Bool) → AllByRecursion PlainNews (if b then FinalOf number Local ∷ [] else [])
    go true = (tt, tt)
    go false = tt

new_plain : (default moment : ℕ) (rows : List QueryableRow) (to : ToGets) (number : Option ℕ) (text : Option (List ℕ))
    → AllByRecursion PlainAsked (asked_by default moment rows to number text)
new_plain default moment rows (Asks question) (Some number) (Some text) = (own_plain number question (met_by_get rows question text), tt)
new_plain default moment rows to number text = tt

all_appended : {X : Type 0} (P : X → Type 0) (xs ys : List X) → AllByRecursion P xs → AllByRecursion P ys → AllByRecursion P (appended xs ys)
all_appended P xs [] first second = first
all_appended P xs (y ∷ ys) first second = all_append P xs (y ∷ ys) first second

asked_plain : (s : Settings) (past : List Entry) → PlainPast past → AllByRecursion PlainAsked (asked s past)
asked_plain s [] all = tt
asked_plain s (x ∷ past) all =
    let to = to_gets_of past x.event in
    let does = (row_of x.event).to_values in
    let news = news_of s.zid (values_now past) to does x.text in
    all_appended PlainAsked (heard news (asked s past)) (asked_by s.default_timeout (moment_of past) (live_queryables past) to x.number x.text)
    (heard_plain news (asked s past) (all_news_plain s.zid (values_now past) to does x.text all.0.0 (to_plain past x.event all.0.1) (does_plain x.event all.0.1)) (asked_plain s past all.1))
    (new_plain s.default_timeout (moment_of past) (live_queryables past) to x.number x.text)

-- the replies that reached a get, and those that it keeps
one_more : (b : Bool) (reply : Replied) (replies : List Replied) → PlainReply reply → PlainReplies replies
    → PlainReplies (if b then reply ∷ replies else replies)
one_more true reply replies plain all = (plain, all)
one_more false reply replies plain all = all

replies_plain : (row : GetRow) (since : List News) → AllByRecursion PlainNews since → PlainReplies (replies_in row since)
replies_plain row [] all = tt
replies_plain row (ReplyTo number reply ∷ since) all =
    one_more (is_for row number reply) reply (replies_in row since) all.0 (replies_plain row since all.1)
replies_plain row (Quiet ∷ since) all = replies_plain row since all.1
replies_plain row (FinalOf number side ∷ since) all = replies_plain row since all.1
replies_plain row (AtMoment moment ∷ since) all = replies_plain row since all.1
replies_plain row (QuerierEnds id ∷ since) all = replies_plain row since all.1
replies_plain row (CancelledBy token ∷ since) all = replies_plain row since all.1
replies_plain row (AllEnd ∷ since) all = replies_plain row since all.1

greatest_plain : (replies : List Replied) (first : Replied) → PlainReplies replies → PlainReply first → PlainReply (greatest replies first)
greatest_plain [] first all plain = plain
greatest_plain (r ∷ older) first all plain = go (same_key r first && not (is_older r (greatest older first))) (greatest_plain older first all.1 plain)
  where
    go : (b : Bool) → PlainReply (greatest older first) → PlainReply (if b then r else greatest older first)
    go true rest = all.0
    go false rest = rest

kept_plain : (mode : ConsolidationMode) (replies : List Replied) → PlainReplies replies → PlainReplies (kept_in mode replies)
kept_plain by.Auto replies all = tt
kept_plain by.None replies all = tt
kept_plain by.Monotonic replies all = tt
kept_plain by.Latest replies all =
    all_map PlainReply PlainReply (greatest replies) (λ r plain. greatest_plain replies r all plain) (firsts replies) (all_firsts PlainReply replies all)

-- what an open get keeps is plain
abbrev pub PlainGet : OpenGet → Type 0
PlainGet g = PlainReplies g.kept

state_plain : (a : Asked) → PlainAsked a → PlainGet (state a)
state_plain a all = kept_plain a.row.mode (replies_in a.row a.since) (replies_plain a.row a.since all)

pub open_plain : (s : Settings) (past : List Entry) → PlainPast past → AllByRecursion PlainGet (open_now s past)
open_plain s past all =
    all_map PlainAsked PlainGet state state_plain (filter is_open (asked s past)) (filter_all PlainAsked is_open (asked s past) (asked_plain s past all))

-- replies and ends
hands_quiet : (number : ℕ) (replies : List Replied) → PlainReplies replies → AreQuiet (map (hand_reply number) replies)
hands_quiet number replies all = all_map PlainReply IsQuiet (hand_reply number) (λ r plain. plain) replies all

ends_quiet : (numbers : List ℕ) → AreQuiet (map end_get numbers)
ends_quiet [] = tt
ends_quiet (number ∷ numbers) = (tt, ends_quiet numbers)

pub reply_quiet : (found : Peek) (number : ℕ) (reply : Replied) → PlainReply reply → AreQuiet (reply_effects found number reply)
reply_quiet peek.Handed number reply plain = (plain, tt)
reply_quiet found number reply plain = tt

response_quiet : (gets : List OpenGet) (response : Response) (answered : Answered) (text : Option (List ℕ)) → IfSome text IsText
    → AllPlain (response_texts answered) → AreQuiet (response_effects gets response answered text)
response_quiet gets response (Reply body) None named plain = tt
response_quiet gets response (Reply body) (Some text) named plain =
    let reply = sample_reply text response body in
    reply_quiet (peek_at (get_at response.rid gets) reply) response.rid reply (reply_plain text response.qos response.responder body named plain.0)
response_quiet gets response (Error value) text named plain = (plain_encoding value.encoding plain.0, tt)

pub final_quiet : (side : Side) (number : ℕ) (o : Option OpenGet) → IfSome o PlainGet → AreQuiet (final_effects number (final_outcome side o))
final_quiet side number None all = tt
final_quiet side number (Some g) all = go (wants side g.row) (wants (other_side side) g.row)
  where
    go : (here there : Bool) → AreQuiet (final_effects number (if here then if there then outcome.Counted else outcome.Ended g.kept else outcome.Repeated))
    go true true = tt
    go true false = all_append IsQuiet (map (hand_reply number) g.kept) (end_get number ∷ []) (hands_quiet number g.kept all) (tt, tt)
    go false there = tt

timeout_plain : PlainReply timeout_error
unfolding lib.Utf8.encode
timeout_plain = refl

last_quiet : (gets : List OpenGet) → AllByRecursion PlainGet gets → AreQuiet (flat_map last_hands (map end_of gets))
last_quiet [] all = tt
last_quiet (g ∷ gets) all =
    all_append IsQuiet (last_hands (end_of g)) (flat_map last_hands (map end_of gets))
    (hands_quiet g.row.number (g.kept ++ timeout_error ∷ []) (all_append PlainReply g.kept (timeout_error ∷ []) all.0 (timeout_plain, tt)))
    (last_quiet gets all.1)

-- the gets of tokens whose deadline is reached, and the ends of others
timeouts_quiet : (numbers : List ℕ) → AreQuiet (map (hand_answer timeout_error) numbers)
timeouts_quiet [] = tt
timeouts_quiet (number ∷ numbers) = (timeout_plain, timeouts_quiet numbers)

asking_quiet : (numbers : List ℕ) → AreQuiet (map end_asking numbers)
asking_quiet [] = tt
asking_quiet (number ∷ numbers) = (tt, asking_quiet numbers)

-- what an event that asks nothing brings about for gets
pub told_quiet : (gets : List OpenGet) (asking : List LivelinessGet) (text : Option (List ℕ)) (to : ToGets) → AllByRecursion PlainGet gets → IfSome text IsText → PlainToGets to
    → AreQuiet (told_effects gets asking text to)
told_quiet gets asking text NoGet all named plain = tt
told_quiet gets asking text (Asks question) all named plain = tt
told_quiet gets asking text (AsksBy id question) all named plain = tt
told_quiet gets asking text (Answers response) all named plain = response_quiet gets response response.answered text named plain
told_quiet gets asking text (EndsSide number) all named plain =
    final_quiet Network number (get_at number gets) (found_all PlainGet (λ g. g.row.number == number) gets all)
told_quiet gets asking text (Reaches moment) all named plain =
    let due = filter (is_due moment) gets in
    let over = over_at moment asking in
    let ends = map end_get (map (λ end. end.0) (map end_of due)) in
    let kept = flat_map last_hands (map end_of due) in
    let errors = map (hand_answer timeout_error) over in
    all_append IsQuiet (kept ++ errors ++ ends) (map end_asking over)
    (all_append IsQuiet (kept ++ errors) ends
    (all_append IsQuiet kept errors (last_quiet due (filter_all PlainGet (is_due moment) gets all)) (timeouts_quiet over))
    (ends_quiet (map (λ end. end.0) (map end_of due))))
    (asking_quiet over)
told_quiet gets asking text (EndsQuerier id) all named plain = ends_quiet (ended_numbers (QuerierEnds id) gets)
told_quiet gets asking text (Cancels token) all named plain =
    all_append IsQuiet (map end_get (ended_numbers (CancelledBy token) gets)) (cancelled_ends token asking) (ends_quiet (ended_numbers (CancelledBy token) gets))
    (asking_quiet (numbers_with token asking))
told_quiet gets asking text EndsAll all named plain =
    all_append IsQuiet (map end_get (map (λ g. g.row.number) gets)) (asking_ends asking) (ends_quiet (map (λ g. g.row.number) gets))
    (asking_quiet (map (λ g. g.number) asking))

-- the request of a get
value_plain : (o : Option Value) → AllPlain (value_texts o) → list_all is_plain_text (value_texts (option_map sent_value o)) ≡ true
value_plain None plain = refl
value_plain (Some value) plain = and_from (is_plain_text (encoding_of value.encoding)) true (plain_encoding value.encoding plain.0) refl

request_plain : (default : ℕ) (wire : WireExpr) (number : ℕ) (q : Question) → is_plain_text wire.suffix ≡ true → PlainToGets (Asks q)
    → list_all is_plain_text (message_texts (Request (request_of default wire number q))) ≡ true
request_plain default wire number q on plain =
    let parameters = is_plain_text (chars (parameters_of q)) in
    let value = list_all is_plain_text (value_texts (option_map sent_value q.inquiry.value)) in
    and_from (is_plain_text wire.suffix) (parameters && value) on
    (and_from parameters value (chars_plain (parameters_of q) (parameters_text q plain.0)) (value_plain q.inquiry.value plain.1))

ask_quiet : (default : ℕ) (wire : WireExpr) (number : ℕ) (q : Question) (values : List QueryValue) → is_plain_text wire.suffix ≡ true → PlainToGets (Asks q)
    → AllByRecursion PlainValue values → AreQuiet (ask_effects default wire number q values)
ask_quiet default wire number q [] on plain all = go (has_network q.settings.destination)
  where
    go : (b : Bool) → AreQuiet (if b then Send (Request (request_of default wire number q)) ∷ [] else end_get number ∷ [])
    go true = (request_plain default wire number q on plain, tt)
    go false = (tt, tt)
ask_quiet default wire number q (v ∷ values) on plain all =
    all_append IsQuiet (request_sends default wire number q) (map hand_query (v ∷ values)) (go (has_network q.settings.destination)) (queries_quiet (v ∷ values) all)
  where
    go : (b : Bool) → AreQuiet (if b then Send (Request (request_of default wire number q)) ∷ [] else [])
    go true = (request_plain default wire number q on plain, tt)
    go false = tt

asked_quiet : (default : ℕ) (k : OwnKeys) (key : NamedKey) (values : List QueryValue) (number : Option ℕ) (text : Option (List ℕ)) (q : Question) → AreTexts k → IfSome text IsText
    → PlainToGets (Asks q) → AllByRecursion PlainValue values → AreQuiet (asked_effects default k key values number text q)
asked_quiet default k key values None text q all named plain drew = tt
asked_quiet default k key values (Some number) None q all named plain drew = tt
asked_quiet default k key values (Some number) (Some text) q all named plain drew =
    ask_quiet default (wire_form k text (declaration_of k text key)) number q values (wire_plain k text (declaration_of k text key) all named) plain drew

pub request_quiet : (default : ℕ) (k : OwnKeys) (key : NamedKey) (values : List QueryValue) (number : Option ℕ) (text : Option (List ℕ)) (to : ToGets) → AreTexts k → IfSome text IsText
    → PlainToGets to → AllByRecursion PlainValue values → AreQuiet (request_effects default k key values number text to)
request_quiet default k key values number text (Asks question) all named plain drew = asked_quiet default k key values number text question all named plain drew
request_quiet default k key values number text to all named plain drew = tt
