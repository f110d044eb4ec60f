-- Query values have plain texts: each was drawn by a plain event, and so what is handed out of queries is plain.
use Rattle.std.proofs.Common.{◌≡◌, ℕ, ◌+◌, ◌==◌, List, [], ◌∷◌, map, filter, true, ◌&&◌, Option, Some, None, IfSome, refl, sym, subst}
use Rattle.std.specs.Prelude.{option_map, encode_utf8_all}
use Rattle.std.specs.List.{AllByRecursion, list_all}
use Rattle.std.proofs.lemmas.Bool.{and_parts, and_from}
use Rattle.std.proofs.lemmas.Str.{encodes-chars}
use Rattle.zs_sample.specs.Encoding.{encoding_of}
use Rattle.zs_wire.specs.Parameters.{trimmed_text}
use Rattle.zs_wire.specs.declared.body.Value.{Value}
use Rattle.zs_wire.specs.declared.message.Message.TheVariants.{Request as request_message, Response as response_message}
use Rattle.zs_wire.specs.declared.request.Request.{Request}
use Rattle.zs_tables.specs.declared.queryable.QueryableRow.{QueryableRow}
use Rattle.zs_query.specs.Types.{QueryValue, RequestRow}
use Rattle.zs_query.specs.Unfinished.{value_at, values_from}
use Rattle.zs_query.specs.RequestTable.{Handing}
use Rattle.zs_query.specs.Drawn.{ValueNews, Drawn, just_drawn, giving_back, drawn, is_unfinished, unfinished}
use Rattle.zs_events.specs.declared.event.Event.{Event}
use Rattle.zs_events.specs.declared.event.Event.TheVariants.{Get, QuerierGet, Undeclare, Net, Reply as reply_event, ReplyErr}
use Rattle.zs_events.specs.declared.entity_kind.EntityKind.{EntityKind}
use Rattle.zs_events.specs.declared.entity_kind.EntityKind.TheVariants.{Sub as sub_kind, Pub as pub_kind, Queryable as queryable_kind, Querier as querier_kind, Listener as listener_kind, Token as token_kind, Lsub as lsub_kind}
use Rattle.zs_events.specs.Kinds.{Question, ToGets, NoGet, Asks, AsksBy, Answers, gets_ended, ToValues, Requested, AnswersBy, AnswersError, SharesValue, GivesBack, value_texts, response_key, response_texts, row_of}
use Rattle.zs_events.specs.declared.inquiry.Inquiry.{Inquiry}
use Rattle.zs_events.specs.Updates.{texts_by}
use Rattle.zs_core.specs.Entry.{Entry}
use Rattle.zs_core.specs.Types.{QuerierRow}
use Rattle.zs_core.specs.Queriers.{querier_at, asks_of, to_gets_by}
use Rattle.zs_core.specs.Live.{live_queryables, live_queriers, to_gets_of}
use Rattle.zs_core.specs.Questions.{parameters_of, sent_value}
use Rattle.zs_core.specs.Values.{met_by_get, met_by_request, get_request, network_request, share_of, drawn_by, news_by_draw, times_handed, handing_by, value_news, values_now}
use Rattle.zs_core.specs.GetEffects.{hand_query}
use Rattle.zs_script.specs.Plain.{is_plain, is_plain_text, is_field_text, is_plain_key, is_plain_named, is_plain_event, text_if}
use Rattle.zs_driving.proofs.Progress.{all_append}
use Rattle.zs_session.proofs.PlainKeys.{IsText, AllPlain, PlainPast, body_plain, field_text, last_plain, texts_plain, plain_encoding, default_plain, filter_all, found_all}
use Rattle.zs_session.proofs.PlainParameters.{all_map, trimmed, parameters_text}
use Rattle.zs_session.proofs.PlainSends.{IsQuiet, AreQuiet}

-- what an event is to gets, with plain texts
abbrev pub PlainToGets : ToGets → Type 0
PlainToGets (Asks q) = (is_field_text q.inquiry.parameters ≡ true) × AllPlain (value_texts q.inquiry.value)
PlainToGets (AsksBy id q) = (is_field_text q.parameters ≡ true) × AllPlain (value_texts q.value)
PlainToGets (Answers response) = AllPlain (response_texts response.answered)
PlainToGets to = Unit {0}

ended_plain : (kind : EntityKind) (id : ℕ) → PlainToGets (gets_ended kind id)
ended_plain sub_kind id = tt
ended_plain pub_kind id = tt
ended_plain queryable_kind id = tt
ended_plain querier_kind id = tt
ended_plain listener_kind id = tt
ended_plain token_kind id = tt
ended_plain lsub_kind id = tt

gets_plain : (e : Event) → is_plain_event e ≡ true → PlainToGets (row_of e).to_gets
gets_plain (Get key settings inquiry to) plain =
    let texts = (and_parts (is_plain_key key) (is_field_text inquiry.parameters && list_all is_field_text (value_texts inquiry.value)) plain).1 in
    let parts = and_parts (is_field_text inquiry.parameters) (list_all is_field_text (value_texts inquiry.value)) texts in
    (parts.0, texts_plain (value_texts inquiry.value) parts.1)
gets_plain (QuerierGet id inquiry to) plain =
    let parts = and_parts (is_field_text inquiry.parameters) (list_all is_field_text (value_texts inquiry.value)) plain in
    (parts.0, texts_plain (value_texts inquiry.value) parts.1)
gets_plain (Undeclare kind id) plain = ended_plain kind id
gets_plain (Net (response_message response)) plain =
    let named = is_plain_named (response_key response.answered response.wire) in
    texts_plain (response_texts response.answered) (and_parts named (list_all is_field_text (response_texts response.answered)) plain).1
gets_plain e plain = tt

-- a get of a querier has no text but its own
asked_by_querier : (q : Inquiry) (o : Option QuerierRow) → (is_field_text q.parameters ≡ true) × AllPlain (value_texts q.value) → PlainToGets (asks_of q o)
asked_by_querier q None plain = tt
asked_by_querier q (Some row) plain = plain

by_plain : (rows : List QuerierRow) (to : ToGets) → PlainToGets to → PlainToGets (to_gets_by rows to)
by_plain rows (AsksBy id q) plain = asked_by_querier q (querier_at id rows) plain
by_plain rows to plain = plain

-- so all is plain that a plain event is to gets
pub to_plain : (past : List Entry) (e : Event) → is_plain_event e ≡ true → PlainToGets (to_gets_of past e)
to_plain past e plain = by_plain (live_queriers past) (row_of e).to_gets (gets_plain e plain)

-- what an event does with query values, with plain texts
abbrev pub PlainToValues : ToValues → Type 0
PlainToValues (Requested request) = (is_field_text request.parameters ≡ true) × AllPlain (value_texts request.value)
PlainToValues (AnswersBy value body quality) = is_plain_text body.encoding ≡ true
PlainToValues (AnswersError value error) = is_plain_text error.encoding ≡ true
PlainToValues does = Unit {0}

pub does_plain : (e : Event) → is_plain_event e ≡ true → PlainToValues (row_of e).to_values
does_plain (Net (request_message request)) plain =
    let texts = (and_parts (is_field_text request.wire.suffix) (is_field_text request.parameters && list_all is_field_text (value_texts request.value)) plain).1 in
    let parts = and_parts (is_field_text request.parameters) (list_all is_field_text (value_texts request.value)) texts in
    (parts.0, texts_plain (value_texts request.value) parts.1)
does_plain (reply_event value key update quality) plain =
    body_plain update.body [] update (and_parts (is_plain_key key) (list_all is_field_text (texts_by update.body)) plain).1 default_plain
does_plain (ReplyErr value error) plain = plain_encoding error.encoding (last_plain true error.encoding plain)
does_plain e plain = tt

-- a request with plain texts, and a value of one
abbrev pub PlainRequest : RequestRow → Type 0
PlainRequest row = IsText row.key.text × (IsText (encode_utf8_all row.parameters) × AllPlain (value_texts row.value))

abbrev pub PlainValue : QueryValue → Type 0
PlainValue v = PlainRequest v.row

sent_plain : (o : Option Value) → AllPlain (value_texts o) → AllPlain (value_texts (option_map sent_value o))
sent_plain None plain = tt
sent_plain (Some value) plain = (plain_encoding value.encoding plain.0, tt)

-- what a get asks, and what a request from the network does
get_plain : (number : ℕ) (text : List ℕ) (q : Question) → IsText text → PlainToGets (Asks q) → PlainRequest (get_request number text q)
get_plain number text q named plain =
    let parameters = parameters_text q plain.0 in
    (named, (subst IsText (sym (encodes-chars (parameters_of q) parameters.1)) parameters, sent_plain q.inquiry.value plain.1))

network_plain : (text : List ℕ) (request : Request) → IsText text → PlainToValues (Requested request) → PlainRequest (network_request text request)
network_plain text request named plain = (named, (field_text request.parameters plain.0, plain.1))

-- all values of a plain request are plain, and so is one more of a plain value's
from_plain : (next handed : ℕ) (row : RequestRow) (met : List ℕ) → PlainRequest row → AllByRecursion PlainValue (values_from next handed row met)
from_plain next handed row [] plain = tt
from_plain next handed row (q ∷ met) plain = (plain, from_plain (next + 1) handed row met plain)

share_plain : (number : ℕ) (o : Option QueryValue) → IfSome o PlainValue → AllByRecursion PlainValue (share_of number o)
share_plain number None plain = tt
share_plain number (Some v) plain = (plain, tt)

-- so are those that a plain event draws
pub drawn_plain : (rows : List QueryableRow) (h : Handing) (to : ToGets) (does : ToValues) (number : Option ℕ) (text : Option (List ℕ)) → AllByRecursion PlainValue h.values
    → IfSome text IsText → PlainToGets to → PlainToValues does → AllByRecursion PlainValue (drawn_by rows h to does number text)
drawn_plain rows h (Asks q) does None text all named asks says = tt
drawn_plain rows h (Asks q) does (Some number) None all named asks says = tt
drawn_plain rows h (Asks q) does (Some number) (Some text) all named asks says =
    from_plain h.next h.handed (get_request number text q) (met_by_get rows q text) (get_plain number text q named asks)
drawn_plain rows h NoGet (Requested request) number None all named asks says = tt
drawn_plain rows h NoGet (Requested request) number (Some text) all named asks says =
    from_plain h.next h.handed (network_request text request) (met_by_request rows request text) (network_plain text request named says)
drawn_plain rows h NoGet (SharesValue value) number text all named asks says =
    share_plain h.next (value_at value h.values) (found_all PlainValue (λ v. v.value == value) h.values all)
drawn_plain rows h to does number text all named asks says = tt

-- a value as it was drawn
abbrev PlainDrawn : Drawn → Type 0
PlainDrawn d = PlainValue d.value

heard_drawn : (to : ToGets) (does : ToValues) (values : List QueryValue) (heard : List ValueNews) → AllByRecursion PlainDrawn (drawn heard) → AllByRecursion PlainValue values
    → AllByRecursion PlainDrawn (drawn (news_by_draw to does values ∷ heard))
heard_drawn NoGet (GivesBack number) values heard all plain = all_map PlainDrawn PlainDrawn (giving_back number) (λ d p. p) (drawn heard) all
heard_drawn to does values heard all plain =
    all_append PlainDrawn (drawn heard) (map just_drawn values) all (all_map PlainValue PlainDrawn just_drawn (λ v p. p) values plain)

unfinished_plain : (heard : List ValueNews) → AllByRecursion PlainDrawn (drawn heard) → AllByRecursion PlainValue (unfinished heard)
unfinished_plain heard all =
    all_map PlainDrawn PlainValue (λ d. d.value) (λ d p. p) (filter is_unfinished (drawn heard)) (filter_all PlainDrawn is_unfinished (drawn heard) all)

news_drawn : (past : List Entry) → PlainPast past → AllByRecursion PlainDrawn (drawn (value_news past))
news_drawn [] all = tt
news_drawn (x ∷ past) all =
    let h = handing_by (times_handed past) (value_news past) in
    let before = news_drawn past all.1 in
    heard_drawn (to_gets_of past x.event) (row_of x.event).to_values
    (drawn_by (live_queryables past) h (to_gets_of past x.event) (row_of x.event).to_values x.number x.text) (value_news past) before
    (drawn_plain (live_queryables past) h (to_gets_of past x.event) (row_of x.event).to_values x.number x.text (unfinished_plain (value_news past) before)
    all.0.0 (to_plain past x.event all.0.1) (does_plain x.event all.0.1))

-- the unfinished values of a plain past are plain
pub values_plain : (past : List Entry) → PlainPast past → AllByRecursion PlainValue (values_now past)
values_plain past all = unfinished_plain (value_news past) (news_drawn past all)

-- what queryables are handed of them is quiet
queried_encoding : (o : Option Value) → AllPlain (value_texts o) → list_all is_plain_text (text_if (option_map (λ v. encoding_of v.encoding) o)) ≡ true
queried_encoding None plain = refl
queried_encoding (Some value) plain = and_from (is_plain_text (encoding_of value.encoding)) true (plain_encoding value.encoding plain.0) refl

query_quiet : (v : QueryValue) → PlainValue v → IsQuiet (hand_query v)
query_quiet v plain =
    let parameters = is_plain (trimmed_text (encode_utf8_all v.row.parameters)) in
    let encoding = list_all is_plain_text (text_if (option_map (λ v. encoding_of v.encoding) v.row.value)) in
    and_from (is_plain v.row.key.text) (parameters && encoding) plain.0.0
    (and_from parameters encoding (trimmed (encode_utf8_all v.row.parameters) plain.1.0).0 (queried_encoding v.row.value plain.1.1))

pub queries_quiet : (values : List QueryValue) → AllByRecursion PlainValue values → AreQuiet (map hand_query values)
queries_quiet values all = all_map PlainValue IsQuiet hand_query query_quiet values all
