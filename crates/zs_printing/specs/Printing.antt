-- The printed text of a turn.
use Rattle.std.specs.Prelude.{ℕ, List, [], ◌∷◌, ◌++◌, Some, None, Result, Ok, Err, codes, decimal, encode_utf8_all}
use Rattle.std.specs.List.{flat_map}
use Rattle.zs_wire.specs.declared.body.Body.{Body}
use Rattle.zs_wire.specs.declared.body.Value.{Value}
use Rattle.zs_wire.specs.declared.message.Message.{Message}
use Rattle.zs_wire.specs.declared.message.Message.TheVariants.{DeclareKeyExpr, UndeclareKeyExpr, DeclareSubscriber, UndeclareSubscriber, DeclareQueryable, UndeclareQueryable, DeclareToken, UndeclareToken, DeclareFinal, Interest, Push as push_message, Request as request_message, Response as response_message, ResponseFinal, Close}
use Rattle.zs_wire.specs.declared.push.Push.{Push}
use Rattle.zs_wire.specs.declared.quality.QoSType.{QoSType}
use Rattle.zs_wire.specs.declared.request.Request.{Request}
use Rattle.zs_wire.specs.declared.response.Answered.{Answered}
use Rattle.zs_wire.specs.declared.response.Answered.TheVariants.{Reply, Err as error_reply}
use Rattle.zs_wire.specs.declared.response.Response.{Response}
use Rattle.zs_wire.specs.declared.sample_kind.SampleKind.{SampleKind}
use Rattle.zs_wire.specs.declared.sample_kind.SampleKind.TheVariants.{Put, Delete}
use Rattle.zs_sample.specs.Quality.{number_of, priority_of}
use Rattle.zs_sample.specs.ErrorFields.{ErrorFields}
use Rattle.zs_sample.specs.Reply.{Replied}
use Rattle.zs_sample.specs.declared.sample_fields.SampleFields.{SampleFields}
use Rattle.zs_query.specs.QueryData.{Query}
use Rattle.zs_events.specs.declared.received.Received.{Received}
use Rattle.zs_events.specs.declared.received.Received.TheVariants.{Item, Empty, Disconnected, Deleted}
use Rattle.zs_events.specs.declared.turn.Answer.{Answer}
use Rattle.zs_events.specs.declared.turn.Answer.TheVariants.{Ok as accepted, Refused}
use Rattle.zs_events.specs.declared.turn.Effect.{Effect}
use Rattle.zs_events.specs.declared.turn.Effect.TheVariants.{Send, Hand, End, Matching}
use Rattle.zs_events.specs.declared.turn.HandOver.{HandOver}
use Rattle.zs_events.specs.declared.turn.HandOver.TheVariants.{Sample, Reply as handed_reply, Query as handed_query}
use Rattle.zs_events.specs.declared.turn.Kind.{Kind}
use Rattle.zs_events.specs.declared.turn.Kind.TheVariants.{Queryable}
use Rattle.zs_events.specs.declared.turn.Turn.{Turn}
use Rattle.zs_parts.specs.Symbols.{naming}
use Rattle.zs_printing.specs.Words.{refusal_name, kind_word, sample_word, is_reliable, complete_word, truth_word, mode_word, what_word}
use Rattle.zs_printing.specs.Pieces.{Piece, word, number, wire, wire_if, payload, parameters, target, consolidation, timeout, value, payload_if, encoding, encoding_if, timestamp, qos, reliable, source, attachment, responder, interest, pieces_fields}

-- these fields, each behind a tab, and the line feed
abbrev pub tabbed : List (List ℕ) → List ℕ
tabbed [] = 10 ∷ []
tabbed (field ∷ fields) = 9 ∷ (field ++ tabbed fields)

-- an output line of the event with this number
abbrev pub line : ℕ → List (List ℕ) → List ℕ
line count fields = decimal count ++ tabbed fields

-- the same line with these bytes before the number, and those behind it: both are empty in `line`
abbrev pub marked_line : List ℕ → ℕ → List ℕ → List (List ℕ) → List ℕ
marked_line before count behind fields = before ++ (decimal count ++ (behind ++ tabbed fields))

-- the answer, behind the event's number
abbrev pub answer_fields : Answer → List (List ℕ)
answer_fields (accepted None) = codes "ok" ∷ []
answer_fields (accepted (Some drawn)) = codes "ok" ∷ decimal drawn ∷ []
answer_fields (Refused refusal) = codes "refused" ∷ refusal_name refusal ∷ []

-- the verb of a body, with the value of a put
abbrev pub verb_pieces : SampleKind → Body → List Piece
verb_pieces Put body = word (codes "put") ∷ payload body.payload ∷ encoding body.encoding ∷ []
verb_pieces Delete body = word (codes "del") ∷ []

-- a publication
abbrev pub push_options : Push → List Piece
push_options p =
    timestamp p.body.timestamp ∷ qos p.qos ∷ reliable p.reliable ∷ source p.body.source ∷ attachment p.body.attachment ∷ []

abbrev pub push_pieces : Push → List Piece
push_pieces p = word (codes "push") ∷ wire p.wire ∷ (verb_pieces p.body.kind p.body ++ push_options p)

-- a query
abbrev pub query_pieces : Request → List Piece
query_pieces r = parameters (encode_utf8_all r.parameters) ∷ target r.target ∷ consolidation r.consolidation ∷ timeout r.timeout ∷ []

abbrev pub query_options : Request → List Piece
query_options r = value r.value ∷ qos r.qos ∷ source r.source ∷ attachment r.attachment ∷ []

abbrev pub request_pieces : Request → List Piece
request_pieces r = word (codes "request") ∷ number r.rid ∷ wire r.wire ∷ (query_pieces r ++ query_options r)

-- what a query is answered: data, or an error
abbrev pub reply_pieces : Body → QoSType → List Piece
reply_pieces body quality =
    verb_pieces body.kind body ++ timestamp body.timestamp ∷ qos quality ∷ source body.source ∷ attachment body.attachment ∷ []

abbrev pub reply_error_pieces : Value → QoSType → List Piece
reply_error_pieces v quality = word (codes "err") ∷ payload v.payload ∷ encoding v.encoding ∷ qos quality ∷ []

abbrev pub answered_pieces : Answered → QoSType → List Piece
answered_pieces (Reply body) quality = reply_pieces body quality
answered_pieces (error_reply v) quality = reply_error_pieces v quality

abbrev pub response_pieces : Response → List Piece
response_pieces r =
    word (codes "response") ∷ number r.rid ∷ wire r.wire ∷ (answered_pieces r.answered r.qos ++ responder r.responder ∷ [])

-- a message
abbrev pub message_pieces : Message → List Piece
message_pieces (DeclareKeyExpr id w) = word (codes "keyexpr") ∷ number id ∷ wire w ∷ []
message_pieces (UndeclareKeyExpr id) = word (codes "unkeyexpr") ∷ number id ∷ []
message_pieces (DeclareSubscriber id w) = word (codes "sub") ∷ number id ∷ wire w ∷ []
message_pieces (UndeclareSubscriber id) = word (codes "unsub") ∷ number id ∷ []
message_pieces (DeclareQueryable id complete w) =
    word (codes "queryable") ∷ number id ∷ word (complete_word complete) ∷ wire w ∷ []
message_pieces (UndeclareQueryable id) = word (codes "unqueryable") ∷ number id ∷ []
message_pieces (DeclareToken id w asked) = word (codes "token") ∷ number id ∷ wire w ∷ interest asked ∷ []
message_pieces (UndeclareToken id w asked) = word (codes "untoken") ∷ number id ∷ wire_if (naming w) ∷ interest asked ∷ []
message_pieces (DeclareFinal asked) = word (codes "declarefinal") ∷ interest asked ∷ []
message_pieces (Interest id mode what w) =
    word (codes "interest") ∷ number id ∷ word (mode_word mode) ∷ word (what_word what) ∷ wire_if w ∷ []
message_pieces (push_message push) = push_pieces push
message_pieces (request_message request) = request_pieces request
message_pieces (response_message response) = response_pieces response
message_pieces (ResponseFinal id) = word (codes "responsefinal") ∷ number id ∷ []
message_pieces Close = word (codes "close") ∷ []

-- the quality of service of a sample
abbrev pub sample_qos : SampleFields → QoSType
sample_qos s = record { priority = number_of s.priority; congestion = s.congestion_control; express = s.express }

-- a sample: what it does, its key, its payload and its options
abbrev pub sample_head : SampleFields → List Piece
sample_head s = word (sample_word s.kind) ∷ word s.key_expr.text ∷ payload s.payload ∷ encoding s.encoding ∷ []

abbrev pub sample_options : SampleFields → List Piece
sample_options s =
    timestamp s.timestamp ∷ qos (sample_qos s) ∷ reliable (is_reliable s.reliability) ∷ source s.source_info
    ∷ attachment s.attachment ∷ []

abbrev pub sample_pieces : SampleFields → List Piece
sample_pieces s = sample_head s ++ sample_options s

-- a sample that is handed to whom the number names
unfoldable pub hand_pieces : Kind → ℕ → SampleFields → List Piece
hand_pieces kind id sample = word (codes "hand") ∷ word (kind_word kind) ∷ number id ∷ sample_pieces sample

-- what a reply brings: a sample, or an error with what it is
abbrev pub error_pieces : ErrorFields → List Piece
error_pieces e = word (codes "err") ∷ payload e.payload ∷ encoding e.encoding ∷ []

abbrev pub outcome_pieces : Result SampleFields ErrorFields → List Piece
outcome_pieces (Ok sample) = sample_pieces sample
outcome_pieces (Err e) = error_pieces e

-- a reply: what it brings, and who sent it
abbrev pub reply_item_pieces : Replied → List Piece
reply_item_pieces reply = outcome_pieces reply.result ++ responder reply.replier ∷ []

-- a reply that is handed to the get which the number names
unfoldable pub replied_pieces : Kind → ℕ → Replied → List Piece
replied_pieces kind id reply = word (codes "reply") ∷ word (kind_word kind) ∷ number id ∷ reply_item_pieces reply

-- the quality of service of a query that is handed out
abbrev pub asked_qos : Query → QoSType
asked_qos q = record { priority = number_of (priority_of q.qos.priority); congestion = q.qos.congestion; express = q.qos.express }

-- such a query: its key, its parameters, its value and its options
abbrev pub asked_head : Query → List Piece
asked_head q = word q.key_expr.text ∷ parameters q.parameters ∷ payload_if q.payload ∷ encoding_if q.encoding ∷ []

abbrev pub asked_options : Query → List Piece
asked_options q = qos (asked_qos q) ∷ source q.source ∷ attachment q.attachment ∷ []

abbrev pub asked_pieces : Query → List Piece
asked_pieces q = asked_head q ++ asked_options q

-- a query that is handed to the queryable which the number names, with the number under which it is answered
unfoldable pub queried_pieces : ℕ → ℕ → Query → List Piece
queried_pieces id count query =
    word (codes "hand") ∷ word (kind_word Queryable) ∷ number id ∷ number count ∷ asked_pieces query

-- an effect, behind the event's number
abbrev pub effect_pieces : Effect → List Piece
effect_pieces (Send message) = word (codes "send") ∷ message_pieces message
effect_pieces (Hand (Sample kind id sample)) = hand_pieces kind id sample
effect_pieces (Hand (handed_reply kind id reply)) = replied_pieces kind id reply
effect_pieces (Hand (handed_query id count query)) = queried_pieces id count query
effect_pieces (End kind id) = word (codes "end") ∷ word (kind_word kind) ∷ number id ∷ []
effect_pieces (Matching id matching) = word (codes "match") ∷ number id ∷ word (truth_word matching) ∷ []

abbrev pub effect_fields : Effect → List (List ℕ)
effect_fields effect = pieces_fields (effect_pieces effect)

-- the lines of a turn: the answer, and each effect
abbrev pub turn_text : ℕ → Turn → List ℕ
turn_text count turn =
    line count (answer_fields turn.answer) ++ flat_map (λ effect. line count (effect_fields effect)) turn.effects

-- the same lines with these bytes before each number, and those behind it
abbrev pub marked_text : List ℕ → ℕ → List ℕ → Turn → List ℕ
marked_text before count behind turn =
    marked_line before count behind (answer_fields turn.answer)
    ++ flat_map (λ effect. marked_line before count behind (effect_fields effect)) turn.effects

-- an item of a channel: what was handed, without the kind and the number of whom
abbrev pub item_pieces : HandOver → List Piece
item_pieces (Sample kind id sample) = sample_pieces sample
item_pieces (handed_reply kind id reply) = reply_item_pieces reply
item_pieces (handed_query id count query) = asked_pieces query

-- what a read of a channel is answered
abbrev pub received_pieces : Received HandOver → List Piece
received_pieces (Item item) = word (codes "item") ∷ item_pieces item
received_pieces Empty = word (codes "empty") ∷ []
received_pieces Disconnected = word (codes "disconnected") ∷ []
received_pieces Deleted = word (codes "deleted") ∷ []

abbrev pub received_fields : Received HandOver → List (List ℕ)
received_fields received = pieces_fields (received_pieces received)
