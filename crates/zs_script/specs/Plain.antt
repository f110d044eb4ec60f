-- Texts that can stand in a field of a line: without a tab and without a line feed.
use Rattle.std.specs.Prelude.{ℕ, Bool, true, ◌==◌, not, ◌&&◌, List, [], ◌∷◌, Option, Some, None, Result, Ok, Err, encode_utf8_all}
use Rattle.std.specs.List.{list_all}
use Rattle.std.specs.Str.{all_scalars}
use Rattle.zs_sample.specs.ErrorFields.{ErrorFields}
use Rattle.zs_sample.specs.declared.sample_fields.SampleFields.{SampleFields}
use Rattle.zs_query.specs.QueryData.{Query}
use Rattle.zs_wire.specs.declared.message.Message.{Message}
use Rattle.zs_wire.specs.declared.message.Message.TheVariants.{DeclareKeyExpr, UndeclareKeyExpr, DeclareSubscriber, UndeclareSubscriber, DeclareQueryable, UndeclareQueryable, DeclareToken, UndeclareToken, DeclareFinal, Interest, Push, Request, Response, ResponseFinal, Close}
use Rattle.zs_wire.specs.declared.response.Answered.{Answered}
use Rattle.zs_wire.specs.declared.response.Answered.TheVariants.{Reply, Err as error_reply}
use Rattle.zs_wire.specs.declared.wire_expr.WireExpr.{WireExpr}
use Rattle.zs_events.specs.declared.key_arg.KeyArg.{KeyArg}
use Rattle.zs_events.specs.declared.key_arg.KeyArg.TheVariants.{Text, Number, Declared}
use Rattle.zs_events.specs.declared.event.Event.{Event}
use Rattle.zs_events.specs.declared.received.Received.{Received}
use Rattle.zs_events.specs.declared.received.Received.TheVariants.{Item, Empty, Disconnected, Deleted}
use Rattle.zs_events.specs.declared.script_event.ScriptEvent.{ScriptEvent}
use Rattle.zs_events.specs.declared.script_event.ScriptEvent.TheVariants.{Core, Recv}
use Rattle.zs_events.specs.Kinds.{NamedKey, NoKey, OwnKey, PublisherKey, QuerierKey, WireKey, value_texts, row_of}
use Rattle.zs_events.specs.declared.turn.Effect.{Effect}
use Rattle.zs_events.specs.declared.turn.Effect.TheVariants.{Send, Hand, End, Matching}
use Rattle.zs_events.specs.declared.turn.HandOver.{HandOver}
use Rattle.zs_events.specs.declared.turn.HandOver.TheVariants.{Sample, Reply as handed_reply, Query as handed_query}

-- no tab and no line feed
abbrev pub is_plain : List ℕ → Bool
is_plain text = list_all (λ b. not (b == 9) && not (b == 10)) text

-- no line feed
abbrev pub has_no_line_feed : List ℕ → Bool
has_no_line_feed line = list_all (λ b. not (b == 10)) line

-- the same of characters
abbrev pub is_plain_text : List ℕ → Bool
is_plain_text text = is_plain (encode_utf8_all text)

-- the same, and all are characters: what a field of a line is read as
abbrev pub is_field_text : List ℕ → Bool
is_field_text text = all_scalars text && is_plain_text text

-- a key with such a text
abbrev pub is_plain_key : KeyArg → Bool
is_plain_key (Text text) = is_field_text text
is_plain_key (Number number suffix) = is_field_text suffix
is_plain_key (Declared text number prefix_len) = is_field_text text

-- a named key with such a text
abbrev pub is_plain_named : NamedKey → Bool
is_plain_named NoKey = true
is_plain_named (OwnKey key) = is_plain_key key
is_plain_named (PublisherKey id) = true
is_plain_named (QuerierKey id) = true
is_plain_named (WireKey wire) = is_field_text wire.suffix

-- an event all of whose texts are such
abbrev pub is_plain_event : Event → Bool
is_plain_event e = is_plain_named (row_of e).key && list_all is_field_text (row_of e).texts

-- the same of what a line says
abbrev pub is_plain_script_event : ScriptEvent → Bool
is_plain_script_event (Core event) = is_plain_event event
is_plain_script_event (Recv kind number) = true

-- the text of a wire expression, if there is one
abbrev pub suffix_if : Option WireExpr → List (List ℕ)
suffix_if None = []
suffix_if (Some wire) = wire.suffix ∷ []

-- the texts of what a query is answered
abbrev pub answered_texts : Answered → List (List ℕ)
answered_texts (Reply body) = body.encoding ∷ []
answered_texts (error_reply value) = value.encoding ∷ []

-- the texts of a message
abbrev pub message_texts : Message → List (List ℕ)
message_texts (DeclareKeyExpr number wire) = wire.suffix ∷ []
message_texts (UndeclareKeyExpr number) = []
message_texts (DeclareSubscriber id wire) = wire.suffix ∷ []
message_texts (UndeclareSubscriber id) = []
message_texts (DeclareQueryable id complete wire) = wire.suffix ∷ []
message_texts (UndeclareQueryable id) = []
message_texts (DeclareToken id wire interest) = wire.suffix ∷ []
message_texts (UndeclareToken id wire interest) = suffix_if wire
message_texts (DeclareFinal interest) = []
message_texts (Interest id mode what wire) = suffix_if wire
message_texts (Push push) = push.wire.suffix ∷ push.body.encoding ∷ []
message_texts (Request request) = request.wire.suffix ∷ request.parameters ∷ value_texts request.value
message_texts (Response response) = response.wire.suffix ∷ answered_texts response.answered
message_texts (ResponseFinal rid) = []
message_texts Close = []

-- a sample and an error whose texts have no tab and no line feed
abbrev pub is_plain_sample : SampleFields → Bool
is_plain_sample sample = is_plain sample.key_expr.text && is_plain_text sample.encoding

abbrev pub is_plain_outcome : Result SampleFields ErrorFields → Bool
is_plain_outcome (Ok sample) = is_plain_sample sample
is_plain_outcome (Err e) = is_plain_text e.encoding

-- a text, if there is one
abbrev pub text_if : Option (List ℕ) → List (List ℕ)
text_if None = []
text_if (Some text) = text ∷ []

-- the same of what a queryable is handed of a query
abbrev pub is_plain_query : Query → Bool
is_plain_query query = is_plain query.key_expr.text && (is_plain query.parameters && list_all is_plain_text (text_if query.encoding))

-- an effect all of whose texts have no tab and no line feed
abbrev pub is_plain_effect : Effect → Bool
is_plain_effect (Send message) = list_all is_plain_text (message_texts message)
is_plain_effect (Hand (Sample kind id sample)) = is_plain_sample sample
is_plain_effect (Hand (handed_reply kind id reply)) = is_plain_outcome reply.result
is_plain_effect (Hand (handed_query id count query)) = is_plain_query query
is_plain_effect (End kind id) = true
is_plain_effect (Matching id matching) = true

-- the same of what a read of a channel is answered
abbrev pub is_plain_received : Received HandOver → Bool
is_plain_received (Item item) = is_plain_effect (Hand item)
is_plain_received Empty = true
is_plain_received Disconnected = true
is_plain_received Deleted = true
