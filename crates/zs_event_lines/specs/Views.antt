-- What the code's parts are to the definitions.
use Rattle.std.specs.Prelude.{Bool, true, false}
use Rattle.zs_parts.specs.Symbols.{u16_max, u32_max, u64_max}
use Rattle.zs_parts.specs.Parts.{number, locality, background_kind, parent, complete, history, key, selector, wire, wire_if, payload, push_body, own_body, parameters, target, consolidation, timeout, value, encoding, timestamp, qos, reliable, quality, reply_quality, source, attachment, responder, any_key, cancellation_token, interest, channel, handed_to}
use Rattle.zs_event_lines.specs.Slots.{Slot, at, said}
use Rattle.zs_event_lines.specs.Lines.{body_kind, told_as}
use Rattle.zs_event_lines.specs.declared.shown.Shown.{Shown}
use Rattle.zs_event_lines.specs.declared.shown.Shown.TheVariants.{Said, Number, KeyNumber, Moment, Locality, Background, Parent, Complete, History, Key, Selector, Wire, WireIf, Payload, Update, OwnUpdate, Body as message_body, Parameters, Target, Consolidation, Timeout, Value, Encoding, Timestamp, QoS, Reliable, Quality, ReplyQuality, Source, Attachment, Responder, AnyKey, CancellationToken, Interest, Channel, HandedTo}

-- the part with its value
abbrev pub slot_of : Shown → Slot
slot_of (Said text) = said text.now
slot_of (Number n) = at (number u32_max) n
slot_of (KeyNumber n) = at (number u16_max) n
slot_of (Moment n) = at (number u64_max) n
slot_of (Locality l) = at locality l
slot_of (Background kind) = at background_kind kind
slot_of (Parent kind) = at parent kind
slot_of (Complete flag) = at complete flag
slot_of (History flag) = at history flag
slot_of (Key k) = at key k.now
slot_of (Selector k text) = at selector (k.now, text.now)
slot_of (Wire w) = at wire w.now
slot_of (WireIf w) = at wire_if w.now
slot_of (Payload bytes) = at payload bytes.now
slot_of (Update body) = at (push_body (body_kind body.now)) body.now
slot_of (OwnUpdate body) = at (own_body (body_kind body.now)) body.now
slot_of (message_body body) = at (push_body body.now.kind) (told_as body.now.kind body.now)
slot_of (Parameters text) = at parameters text.now
slot_of (Target t) = at target t
slot_of (Consolidation mode) = at consolidation mode
slot_of (Timeout time) = at timeout time
slot_of (Value v) = at value v.now
slot_of (Encoding text) = at encoding text.now
slot_of (Timestamp time) = at timestamp time
slot_of (QoS least absent q) = at (qos least absent) q
slot_of (Reliable flag) = at reliable flag
slot_of (Quality q) = at quality q
slot_of (ReplyQuality q) = at reply_quality q
slot_of (Source origin) = at source origin
slot_of (Attachment bytes) = at attachment bytes.now
slot_of (Responder id) = at responder id
slot_of (AnyKey flag) = at any_key flag
slot_of (CancellationToken id) = at cancellation_token id
slot_of (Interest id) = at interest id
slot_of (Channel c) = at channel c
slot_of (HandedTo c) = at handed_to c

-- whether it is an option other than quality of service, or a field that may be left out
abbrev pub is_option : Shown → Bool
is_option (WireIf w) = true
is_option (Parameters text) = true
is_option (Target t) = true
is_option (Consolidation mode) = true
is_option (Timeout time) = true
is_option (Value v) = true
is_option (Encoding text) = true
is_option (Timestamp time) = true
is_option (Source origin) = true
is_option (Attachment bytes) = true
is_option (Responder id) = true
is_option (AnyKey flag) = true
is_option (CancellationToken id) = true
is_option (Interest id) = true
is_option (Channel c) = true
is_option (HandedTo c) = true
is_option s = false
