-- What the parts of forms read off texts is plain, and so is what a form makes of it.
use Rattle.std.proofs.Common.{ℕ, ◌≡◌, Bool, true, false, cond, nat_lt, List, [], ◌∷◌, Option, Some, None, IfSome, refl, lit<, codes, option_map, option_and_then}
use Rattle.std.specs.List.{list_all, AllByRecursion}
use Rattle.std.specs.Str.{chars}
use Rattle.std.proofs.lemmas.Bool.{and_parts, and_from}
use Rattle.zs_sample.specs.Encoding.{encoding_of}
use Rattle.zs_wire.specs.declared.quality.CongestionControl.{CongestionControl}
use Rattle.zs_wire.specs.declared.quality.CongestionControl.TheVariants.{Drop}
use Rattle.zs_wire.specs.declared.sample_kind.SampleKind.{SampleKind}
use Rattle.zs_wire.specs.declared.sample_kind.SampleKind.TheVariants.{Put as put_kind, Delete as delete_kind}
use Rattle.zs_wire.specs.declared.wire_expr.WireExpr.{WireExpr}
use Rattle.zs_wire.specs.declared.message.Message.{Message}
use Rattle.zs_events.specs.declared.event.Event.{Event}
use Rattle.zs_events.specs.declared.event.Event.TheVariants.{Net}
use Rattle.zs_events.specs.declared.script_event.ScriptEvent.{ScriptEvent}
use Rattle.zs_events.specs.declared.update.PushBody.{PushBody}
use Rattle.zs_events.specs.declared.update.PushBody.TheVariants.{Put, Delete}
use Rattle.zs_events.specs.declared.update.Update.{Update}
use Rattle.zs_events.specs.Updates.{default_encoding, body_by, texts_by}
use Rattle.zs_events.specs.Kinds.{value_texts}
use Rattle.zs_parts.specs.Symbols.{number_of, u32_max, u64_max, locality_of, background_kind_of, parent_of, complete_of, history_of, key_of, payload_of, wire_of, names_nothing, naming}
use Rattle.zs_parts.specs.Options.{timestamp_of, entity_of, source_of, encoding_text_of, is_default, priority_of, congestion_of, flag_of, target_of, consolidation_of, any_key_of, value_of}
use Rattle.zs_parts.specs.Channels.{channel_of, channel_kind_of}
use Rattle.zs_parts.specs.Parts.{Part, number, locality, background_kind, parent, complete, history, key, selector, wire, wire_if, payload, push_body, own_body, parameters, target, consolidation, timeout, value, encoding, timestamp, qos, reliable, quality, reply_quality, source, attachment, responder, any_key, cancellation_token, interest, channel, handed_to, channel_kind, Value, first_of, behind, first_in, named_in, taken, option_in, maybe_in, named_wire_in, qos_in, quality_in, reply_quality_in, named_encoding_in, encoded, body_in, unnamed, unnamed_in, own_body_in, value_in, selector_of, read, Maker, form}
use Rattle.zs_script.specs.Plain.{is_field_text, is_plain_event, is_plain_script_event, suffix_if, text_if}
use Rattle.zs_script.proofs.PlainSymbols.{IsText, PlainKey, PlainChars, PlainWire, on-map, on-then, on-any, prefix-text, chars-plain, key-plain, wire-plain, before-sign, behind-sign}

abbrev pub AreTexts : List (List ℕ) → Type 0
AreTexts fields = AllByRecursion IsText fields

abbrev AllPlain : List (List ℕ) → Type 0
AllPlain texts = list_all is_field_text texts ≡ true

abbrev pub PlainEvent : Event → Type 0
PlainEvent event = is_plain_event event ≡ true

-- the same of a message that comes in
abbrev pub PlainMessage : Message → Type 0
PlainMessage message = PlainEvent (Net message)

abbrev pub PlainLine : ScriptEvent → Type 0
PlainLine event = is_plain_script_event event ≡ true

pub default-plain : PlainChars default_encoding
unfolding lib.Utf8.encode
default-plain = refl

-- what a part reads, and the fields behind it
abbrev Reads : {A : Type 0} → (A → Type 0) → A × List (List ℕ) → Type 0
Reads P found = P found.0 × AreTexts found.1

behind-texts : (fields : List (List ℕ)) → AreTexts fields → AreTexts (behind fields)
behind-texts [] h = tt
behind-texts (field ∷ rest) h = h.1

first-plain : {A : Type 0} (symbol : List ℕ → Option A) (P : A → Type 0)
    → ((field : List ℕ) → IsText field → IfSome (symbol field) P) → (fields : List (List ℕ)) → AreTexts fields
    → IfSome (first_in symbol fields) (Reads P)
first-plain symbol P each [] h = tt
first-plain {A = A} symbol P each (field ∷ rest) h =
    on-map {A = A} {B = A × List (List ℕ)} (λ found. (found, rest)) P (Reads P) (λ found k. (k, h.1)) (symbol field) (each field h.0)

first-any : {A : Type 0} (symbol : List ℕ → Option A) (fields : List (List ℕ)) → AreTexts fields
    → IfSome (first_in symbol fields) (Reads (λ _. Unit {0}))
first-any symbol fields h = first-plain symbol (λ _. Unit {0}) (λ field _. on-any (symbol field)) fields h

named-text : (name : List ℕ) → list_all (λ b. nat_lt b 128) name ≡ true → (fields : List (List ℕ)) → AreTexts fields
    → IfSome (named_in name fields) IsText
named-text name small [] h = tt
named-text name small (field ∷ rest) h = prefix-text name field small h.0

taken-plain : {A : Type 0} (absent : A) (P : A → Type 0) → P absent → (fields : List (List ℕ)) → AreTexts fields
    → (o : Option A) → IfSome o P → Reads P (taken absent fields o)
taken-plain absent P none fields h None k = (none, h)
taken-plain absent P none fields h (Some found) k = (k, behind-texts fields h)

option-plain : {A : Type 0} (name : List ℕ) (symbol : List ℕ → Option A) (absent : A) (P : A → Type 0)
    → list_all (λ b. nat_lt b 128) name ≡ true → P absent → ((text : List ℕ) → IsText text → IfSome (symbol text) P)
    → (fields : List (List ℕ)) → AreTexts fields → Reads P (option_in name symbol absent fields)
option-plain {A = A} name symbol absent P small none each fields h =
    taken-plain absent P none fields h (option_and_then symbol (named_in name fields))
    (on-then {A = List ℕ} {B = A} symbol IsText P each (named_in name fields) (named-text name small fields h))

option-any : {A : Type 0} (name : List ℕ) (symbol : List ℕ → Option A) (absent : A) (fields : List (List ℕ)) → AreTexts fields
    → Reads (λ _. Unit {0}) (option_in name symbol absent fields)
option-any name symbol absent fields h =
    taken-plain absent (λ _. Unit {0}) tt fields h (option_and_then symbol (named_in name fields)) (on-any _)

maybe-any : {A : Type 0} (name : List ℕ) (symbol : List ℕ → Option A) (fields : List (List ℕ)) → AreTexts fields
    → Reads (λ _. Unit {0}) (maybe_in name symbol fields)
maybe-any name symbol fields h = option-any name (λ text. option_map Some (symbol text)) None fields h

-- encodings
encoding-text : (text : List ℕ) → PlainChars text → PlainChars (encoding_of text)
encoding-text [] h = default-plain
encoding-text (c ∷ cs) h = h

encoding-plain : (field : List ℕ) → IsText field → PlainChars (encoding_of (chars field))
encoding-plain field h = encoding-text (chars field) (chars-plain field h)

-- where it is named
given-encoding-plain : (fields : List (List ℕ)) → AreTexts fields
    → Reads (λ text. AllPlain (text_if text)) (maybe_in (codes "enc=") encoding_text_of fields)
given-encoding-plain fields h =
    option-plain (codes "enc=") (λ text. option_map Some (encoding_text_of text)) None (λ text. AllPlain (text_if text))
    refl refl (λ text k. and_from _ _ (encoding-plain text k) refl) fields h

-- what is put
put-texts : (bytes : List (List ℕ)) (text : Option (List ℕ)) → AllPlain (text_if text) → AllPlain (texts_by (Put bytes text))
put-texts bytes None h = refl
put-texts bytes (Some text) h = h

body-texts : (kind : SampleKind) (fields : List (List ℕ)) → AreTexts fields
    → IfSome {T = PushBody × List (List ℕ)} (body_in kind fields) (λ found. AllPlain (texts_by found.0) × AreTexts found.1)
body-texts put_kind fields h =
    on-map {A = List (List ℕ) × List (List ℕ)} {B = PushBody × List (List ℕ)} (λ found. encoded found.0 (named_encoding_in found.1))
    (Reads (λ _. Unit {0})) (λ found. AllPlain (texts_by found.0) × AreTexts found.1)
    (λ found k. let text = given-encoding-plain found.1 k.1 in (put-texts found.0 (named_encoding_in found.1).0 text.0, text.1))
    (first_in payload_of fields) (first-any payload_of fields h)
body-texts delete_kind fields h = (refl, h)

-- and without a name for the default encoding
unnamed-texts : (what : PushBody) → AllPlain (texts_by what) → AllPlain (texts_by (unnamed what))
unnamed-texts (Put bytes None) h = h
unnamed-texts (Put bytes (Some text)) h = go (is_default text)
  where
    go : (b : Bool) → AllPlain (texts_by (Put bytes (cond b None (Some text))))
    go true = refl
    go false = h
unnamed-texts Delete h = h

own-body-texts : (kind : SampleKind) (fields : List (List ℕ)) → AreTexts fields
    → IfSome {T = PushBody × List (List ℕ)} (own_body_in kind fields) (λ found. AllPlain (texts_by found.0) × AreTexts found.1)
own-body-texts kind fields h =
    on-map {A = PushBody × List (List ℕ)} {B = PushBody × List (List ℕ)} unnamed_in
    (λ found. AllPlain (texts_by found.0) × AreTexts found.1) (λ found. AllPlain (texts_by found.0) × AreTexts found.1)
    (λ found k. (unnamed-texts found.0 k.0, k.1)) (body_in kind fields) (body-texts kind fields h)

-- and as it stands in a message
pub body-plain : (what : PushBody) (update : Update) → AllPlain (texts_by what) → PlainChars (body_by what [] update).encoding
body-plain (Put bytes None) update h = default-plain
body-plain (Put bytes (Some text)) update h = encoding-text text (and_parts _ true h).0
body-plain Delete update h = default-plain

-- compound parts
abbrev pub PlainWireIf : Option WireExpr → Type 0
PlainWireIf w = AllPlain (suffix_if w)

first-text : (fields : List (List ℕ)) → AreTexts fields → IfSome (first_of fields) IsText
first-text [] h = tt
first-text (field ∷ rest) h = h.0

naming-plain : (w : WireExpr) → PlainWire w → PlainWireIf (naming (Some w))
naming-plain w h = go (names_nothing w)
  where
    go : (b : Bool) → PlainWireIf (cond b None (Some w))
    go true = refl
    go false = and_from _ _ h refl

named-wire-plain : (fields : List (List ℕ)) → AreTexts fields → Reads PlainWireIf (named_wire_in fields)
named-wire-plain fields h =
    taken-plain None PlainWireIf refl fields h (option_map (λ w. naming (Some w)) (option_and_then wire_of (first_of fields)))
    (on-map {A = WireExpr} {B = Option WireExpr} (λ w. naming (Some w)) PlainWire PlainWireIf naming-plain (option_and_then wire_of (first_of fields))
    (on-then {A = List ℕ} {B = WireExpr} wire_of IsText PlainWire wire-plain (first_of fields) (first-text fields h)))

qos-texts : (least : ℕ) (absent : CongestionControl) (fields : List (List ℕ)) → AreTexts fields
    → Reads (λ _. Unit {0}) (qos_in least absent fields)
qos-texts least absent fields h =
    let priority = option_in (codes "prio=") (priority_of least) 5 fields in
    let congestion = option_in (codes "cc=") congestion_of absent priority.1 in (
      tt,
      (option-any (codes "express=") flag_of _ congestion.1
          (option-any (codes "cc=") congestion_of absent priority.1
          (option-any (codes "prio=") (priority_of least) 5 fields h).1).1).1,
    )

quality-texts : (fields : List (List ℕ)) → AreTexts fields → Reads (λ _. Unit {0}) (quality_in fields)
quality-texts fields h =
    let service = qos_in 1 Drop fields in
    (tt, (option-any (codes "rel=") flag_of true service.1 (qos-texts 1 Drop fields h).1).1)

reply-quality-texts : (fields : List (List ℕ)) → AreTexts fields → Reads (λ _. Unit {0}) (reply_quality_in fields)
reply-quality-texts fields h =
    let priority = maybe_in (codes "prio=") (priority_of 1) fields in
    let congestion = maybe_in (codes "cc=") congestion_of priority.1 in (
      tt,
      (maybe-any (codes "express=") flag_of congestion.1
          (maybe-any (codes "cc=") congestion_of priority.1
          (maybe-any (codes "prio=") (priority_of 1) fields h).1).1).1,
    )

value-made : (bytes : Option (List (List ℕ))) (text : Option (List ℕ)) → AllPlain (text_if text) → AllPlain (value_texts (value_of bytes text))
value-made None None h = refl
value-made None (Some text) h = h
value-made (Some bytes) None h = and_from _ _ default-plain refl
value-made (Some bytes) (Some text) h = h

value-plain : (fields : List (List ℕ)) → AreTexts fields → Reads (λ v. AllPlain (value_texts v)) (value_in fields)
value-plain fields h =
    let bytes = maybe_in (codes "payload=") payload_of fields in
    let text = given-encoding-plain bytes.1 (maybe-any (codes "payload=") payload_of fields h).1 in
    (value-made bytes.0 (maybe_in (codes "enc=") encoding_text_of bytes.1).0 text.0, text.1)

-- the texts of what a part is read as
abbrev pub IsPlainValue : (part : Part) → Value part → Type 0
IsPlainValue key k = PlainKey k
IsPlainValue selector s = PlainKey s.0 × PlainChars s.1
IsPlainValue wire w = PlainWire w
IsPlainValue wire_if w = PlainWireIf w
IsPlainValue (push_body kind) what = AllPlain (texts_by what)
IsPlainValue (own_body kind) what = AllPlain (texts_by what)
IsPlainValue parameters text = PlainChars text
IsPlainValue value v = AllPlain (value_texts v)
IsPlainValue encoding text = PlainChars text
IsPlainValue part v = Unit {0}

read-plain : (part : Part) (fields : List (List ℕ)) → AreTexts fields
    → IfSome {T = Value part × List (List ℕ)} (read part fields) (λ found. IsPlainValue part found.0 × AreTexts found.1)
unfolding read
read-plain (number most) fields h = first-any (number_of most) fields h
read-plain locality fields h = first-any locality_of fields h
read-plain background_kind fields h = first-any background_kind_of fields h
read-plain parent fields h = first-any parent_of fields h
read-plain complete fields h = first-any complete_of fields h
read-plain history fields h = first-any history_of fields h
read-plain key fields h = first-plain (λ field. Some (key_of field)) PlainKey key-plain fields h
read-plain selector fields h =
    first-plain (λ field. Some (selector_of field)) (λ s. PlainKey s.0 × PlainChars s.1)
    (λ field k. (key-plain _ (before-sign 63 (lit< tt) field k), chars-plain _ (behind-sign 63 (lit< tt) field k))) fields h
read-plain wire fields h = first-plain wire_of PlainWire wire-plain fields h
read-plain wire_if fields h = named-wire-plain fields h
read-plain payload fields h = first-any payload_of fields h
read-plain (push_body kind) fields h = body-texts kind fields h
read-plain (own_body kind) fields h = own-body-texts kind fields h
read-plain parameters fields h = option-plain (codes "params=") (λ text. Some (chars text)) [] PlainChars refl refl chars-plain fields h
read-plain target fields h = option-any (codes "target=") target_of _ fields h
read-plain consolidation fields h = option-any (codes "cons=") consolidation_of _ fields h
read-plain timeout fields h = maybe-any (codes "timeout=") (number_of u64_max) fields h
read-plain value fields h = value-plain fields h
read-plain encoding fields h = option-plain (codes "enc=") encoding_text_of default_encoding PlainChars refl default-plain encoding-plain fields h
read-plain timestamp fields h = maybe-any (codes "ts=") timestamp_of fields h
read-plain (qos least absent) fields h = qos-texts least absent fields h
read-plain reliable fields h = option-any (codes "rel=") flag_of _ fields h
read-plain quality fields h = quality-texts fields h
read-plain reply_quality fields h = reply-quality-texts fields h
read-plain source fields h = maybe-any (codes "src=") source_of fields h
read-plain attachment fields h = maybe-any (codes "att=") payload_of fields h
read-plain responder fields h = maybe-any (codes "by=") entity_of fields h
read-plain any_key fields h = option-any (codes "accept=") any_key_of _ fields h
read-plain cancellation_token fields h = maybe-any (codes "token=") (number_of u32_max) fields h
read-plain interest fields h = maybe-any (codes "interest=") (number_of u32_max) fields h
read-plain channel fields h = taken-plain _ (λ _. Unit {0}) tt fields h (option_and_then channel_of (first_of fields)) (on-any _)
read-plain handed_to fields h = option-any (codes "to=") channel_of _ fields h
read-plain channel_kind fields h = first-any channel_kind_of fields h

pub wire-read : (fields : List (List ℕ)) → AreTexts fields
    → IfSome (read wire fields) (λ found. PlainWire found.0 × AreTexts found.1)
wire-read fields h = read-plain wire fields h

pub number-read : (most : ℕ) (fields : List (List ℕ)) → AreTexts fields
    → IfSome {T = ℕ × List (List ℕ)} (read (number most) fields) (λ found. AreTexts found.1)
unfolding read
number-read most [] h = tt
number-read most (field ∷ rest) h =
    on-map {A = ℕ} {B = ℕ × List (List ℕ)} (λ found. (found, rest)) (λ _. Unit {0}) (λ found. AreTexts found.1) (λ _ _. h.1)
    (number_of most field) (on-any (number_of most field))

-- a maker that makes what is plain of plain values
abbrev pub MakesPlain : {A : Type 0} (P : A → Type 0) (parts : List Part) → Maker parts A → Type 0
MakesPlain P [] made = P made
MakesPlain P (part ∷ parts) make = (v : Value part) → IsPlainValue part v → MakesPlain P parts (make v)

made-plain : {A : Type 0} (P : A → Type 0) (parts : List Part) (make : Maker parts A) → MakesPlain P parts make
    → (fields : List (List ℕ)) → AreTexts fields → IfSome (form parts make fields) P
unfolding form
made-plain P [] made plain [] h = plain
made-plain P [] made plain (field ∷ rest) h = tt
made-plain {A = A} P (part ∷ parts) make plain fields h =
    on-then {A = Value part × List (List ℕ)} {B = A} (λ found. form parts (make found.0) found.1)
    (λ found. IsPlainValue part found.0 × AreTexts found.1) P
    (λ found k. made-plain P parts (make found.0) (plain found.0 k.0) found.1 k.1) (read part fields) (read-plain part fields h)

pub form-plain : (parts : List Part) (make : Maker parts Event) → MakesPlain PlainEvent parts make → (fields : List (List ℕ)) → AreTexts fields
    → IfSome (form parts make fields) PlainEvent
form-plain parts make plain fields h = made-plain PlainEvent parts make plain fields h

pub message-plain : (parts : List Part) (make : Maker parts Message) → MakesPlain PlainMessage parts make → (fields : List (List ℕ)) → AreTexts fields
    → IfSome (form parts make fields) PlainMessage
message-plain parts make plain fields h = made-plain PlainMessage parts make plain fields h

pub line-plain : (parts : List Part) (make : Maker parts ScriptEvent) → MakesPlain PlainLine parts make → (fields : List (List ℕ)) → AreTexts fields
    → IfSome (form parts make fields) PlainLine
line-plain parts make plain fields h = made-plain PlainLine parts make plain fields h
