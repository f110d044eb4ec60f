-- Which values of parts can be said in a line, what their types say of them, and what comes back of them.
use Rattle.std.specs.Prelude.{ℕ, ◌==◌, nat_le, nat_lt, Bool, true, false, not, ◌&&◌, List, length, Option, Some, None, option_map, encode_utf8_all}
use Rattle.std.specs.List.{list_all}
use Rattle.std.specs.Str.{all_scalars}
use Rattle.zs_bytes.specs.Payload.{bytes_of, one_slice}
use Rattle.zs_wire.specs.declared.body.Value.{Value as QueryValue}
use Rattle.zs_wire.specs.declared.origin.EntityGlobalId.{EntityGlobalId}
use Rattle.zs_wire.specs.declared.origin.SourceInfo.{SourceInfo}
use Rattle.zs_wire.specs.declared.origin.Timestamp.{Timestamp}
use Rattle.zs_wire.specs.declared.sample_kind.SampleKind.{SampleKind}
use Rattle.zs_wire.specs.declared.sample_kind.SampleKind.TheVariants.{Put as put_kind, Delete as delete_kind}
use Rattle.zs_wire.specs.declared.wire_expr.WireExpr.{WireExpr}
use Rattle.zs_events.specs.declared.chan.Chan.{Chan}
use Rattle.zs_events.specs.declared.chan.Chan.TheVariants.{Print, Fifo, Ring}
use Rattle.zs_events.specs.declared.key_arg.KeyArg.{KeyArg}
use Rattle.zs_events.specs.declared.key_arg.KeyArg.TheVariants.{Text, Number, Declared}
use Rattle.zs_events.specs.declared.update.PushBody.{PushBody}
use Rattle.zs_events.specs.declared.update.PushBody.TheVariants.{Put, Delete}
use Rattle.zs_events.specs.Kinds.{is_nothing}
use Rattle.zs_parts.specs.Symbols.{u16_max, u32_max, u64_max, numbered_of, names_nothing}
use Rattle.zs_script.specs.Plain.{is_plain_text}
use Rattle.zs_parts.specs.Parts.{Part, number, key, selector, wire, wire_if, payload, push_body, own_body, parameters, timeout, value, encoding, timestamp, qos, quality, reply_quality, source, attachment, responder, cancellation_token, interest, channel, handed_to, channel_kind, Value, unnamed}

-- whether there is none
abbrev pub is_missing : {A : Type 0} → Option A → Bool
is_missing None = true
is_missing (Some found) = false

-- a test of what may be missing
abbrev pub if_there : {A : Type 0} → (A → Bool) → Option A → Bool
if_there test None = true
if_there test (Some found) = test found

-- a key that can be told from others by its text: a plain one that has not the form of a number, or a number
abbrev pub says_key : KeyArg → Bool
says_key (Text text) = is_plain_text text && is_missing (numbered_of (encode_utf8_all text))
says_key (Number n suffix) = is_plain_text suffix
says_key (Declared text n length) = false

-- without a question mark, behind which parameters stand
abbrev pub has_no_question : KeyArg → Bool
has_no_question (Text text) = list_all (λ b. not (b == 63)) (encode_utf8_all text)
has_no_question (Number n suffix) = list_all (λ b. not (b == 63)) (encode_utf8_all suffix)
has_no_question (Declared text n length) = false

-- an encoding: the empty text would be read as the default one
abbrev pub says_encoding : List ℕ → Bool
says_encoding text = not (is_nothing text) && is_plain_text text

-- a wire expression that names something
abbrev pub says_wire : WireExpr → Bool
says_wire w = not (names_nothing w) && is_plain_text w.suffix

-- what is put or deleted, as that kind of line says it
abbrev pub says_body : SampleKind → PushBody → Bool
says_body put_kind (Put bytes text) = if_there says_encoding text
says_body put_kind Delete = false
says_body delete_kind (Put bytes text) = false
says_body delete_kind Delete = true

-- a priority
abbrev pub says_priority : ℕ → ℕ → Bool
says_priority least n = nat_le least n && nat_le n 7

-- a channel: its size
abbrev pub says_channel : Chan → Bool
says_channel Print = true
says_channel (Fifo size) = nat_le 1 size && nat_le size u16_max
says_channel (Ring size) = nat_le 1 size && nat_le size u16_max

-- whether a value can be said
unfoldable pub says : (part : Part) → Value part → Bool
says key k = says_key k
says selector s = says_key s.0 && (has_no_question s.0 && is_plain_text s.1)
says wire w = is_plain_text w.suffix
says wire_if w = if_there says_wire w
says (push_body kind) body = says_body kind body
says (own_body kind) body = says_body kind body
says parameters text = is_plain_text text
says value v = if_there (λ w. says_encoding w.encoding) v
says encoding text = says_encoding text
says (qos least absent) q = says_priority least q.priority
says quality q = says_priority 1 q.qos.priority
says reply_quality q = if_there (λ n. says_priority 1 n) q.priority
says channel c = says_channel c
says handed_to c = says_channel c
says channel_kind kind = false
says part v = true

-- the least number with more than 32 hexadecimal digits
abbrev pub hex_end : ℕ
hex_end = 340282366920938463463374607431768211456

-- what the types of symbols say of them
abbrev pub are_bytes : List (List ℕ) → Bool
are_bytes bytes = list_all (λ b. nat_lt b 256) (bytes_of bytes)

abbrev pub is_key : KeyArg → Bool
is_key (Text text) = all_scalars text
is_key (Number n suffix) = nat_le n u16_max && all_scalars suffix
is_key (Declared text n length) = all_scalars text

abbrev pub is_wire : WireExpr → Bool
is_wire w = nat_le w.scope u16_max && all_scalars w.suffix

abbrev pub is_body : PushBody → Bool
is_body (Put bytes text) = are_bytes bytes && if_there all_scalars text
is_body Delete = true

abbrev pub is_timestamp : Timestamp → Bool
is_timestamp t = nat_le t.time u64_max && nat_lt t.id hex_end

abbrev pub is_entity : EntityGlobalId → Bool
is_entity e = nat_lt e.zid hex_end && nat_le e.eid u32_max

abbrev pub is_source : SourceInfo → Bool
is_source s = is_entity s.source_id && nat_le s.source_sn u32_max

-- what the type of a part's value says of it: numbers are in range, bytes are bytes and characters are characters
unfoldable pub is_typed : (part : Part) → Value part → Bool
is_typed (number most) n = nat_le n most
is_typed key k = is_key k
is_typed selector s = is_key s.0 && all_scalars s.1
is_typed wire w = is_wire w
is_typed wire_if w = if_there is_wire w
is_typed payload bytes = are_bytes bytes
is_typed (push_body kind) body = is_body body
is_typed (own_body kind) body = is_body body
is_typed parameters text = all_scalars text
is_typed timeout time = if_there (λ n. nat_le n u64_max) time
is_typed value v = if_there (λ w. are_bytes w.payload && all_scalars w.encoding) v
is_typed encoding text = all_scalars text
is_typed timestamp time = if_there is_timestamp time
is_typed source origin = if_there is_source origin
is_typed attachment bytes = if_there are_bytes bytes
is_typed responder id = if_there is_entity id
is_typed cancellation_token id = if_there (λ n. nat_le n u32_max) id
is_typed interest id = if_there (λ n. nat_le n u32_max) id
is_typed part v = true

-- a payload's bytes in one slice, as lines give them
abbrev pub gathered : List (List ℕ) → List (List ℕ)
gathered bytes = one_slice (bytes_of bytes)

abbrev pub gathered_push : PushBody → PushBody
gathered_push (Put bytes text) = Put (gathered bytes) text
gathered_push Delete = Delete

abbrev pub gathered_value : QueryValue → QueryValue
gathered_value v = record { payload = gathered v.payload; encoding = v.encoding }

-- what comes back of a value that was printed
unfoldable pub kept : (part : Part) → Value part → Value part
kept payload bytes = gathered bytes
kept (push_body kind) body = gathered_push body
kept (own_body kind) body = unnamed (gathered_push body)
kept value v = option_map gathered_value v
kept attachment bytes = option_map gathered bytes
kept part v = v
