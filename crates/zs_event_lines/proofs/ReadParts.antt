-- What each part of a line is read as can be said, is as its type says, and comes back the same.
use Rattle.std.proofs.Common.{ℕ, ◌≡◌, Bool, true, false, nat_lt, List, [], ◌∷◌, Option, Some, None, IfSome, refl, ap, ◌∙◌, codes, cond, option_map, option_and_then}
use Rattle.std.specs.Prelude.{nat_le}
use Rattle.std.specs.List.{list_all}
use Rattle.std.specs.Str.{all_scalars, chars}
use Rattle.std.proofs.lemmas.Bool.{and_from, and_parts}
use Rattle.zs_wire.specs.declared.body.Value.{Value as QueryValue}
use Rattle.zs_wire.specs.declared.quality.CongestionControl.{CongestionControl}
use Rattle.zs_wire.specs.declared.quality.CongestionControl.TheVariants.{Drop}
use Rattle.zs_wire.specs.declared.quality.QoSType.{QoSType}
use Rattle.zs_events.specs.declared.publication.PublicationQuality.{PublicationQuality}
use Rattle.zs_events.specs.declared.publication.ReplyQuality.{ReplyQuality}
use Rattle.zs_wire.specs.declared.sample_kind.SampleKind.{SampleKind}
use Rattle.zs_wire.specs.declared.sample_kind.SampleKind.TheVariants.{Put as put_kind, Delete as delete_kind}
use Rattle.zs_wire.specs.declared.wire_expr.WireExpr.{WireExpr}
use Rattle.zs_events.specs.declared.chan.Chan.TheVariants.{Print}
use Rattle.zs_events.specs.declared.update.PushBody.{PushBody}
use Rattle.zs_events.specs.declared.update.PushBody.TheVariants.{Put, Delete}
use Rattle.zs_events.specs.Updates.{default_encoding}
use Rattle.zs_parts.specs.Symbols.{number_of, u32_max, u64_max, locality_of, background_kind_of, parent_of, complete_of, history_of, key_of, payload_of, wire_of, names_nothing, naming}
use Rattle.zs_parts.specs.Options.{timestamp_of, entity_of, source_of, encoding_text_of, priority_of, congestion_of, flag_of, target_of, consolidation_of, any_key_of, value_of}
use Rattle.zs_parts.specs.Channels.{channel_of}
use Rattle.zs_parts.specs.Parts.{Part, number, locality, background_kind, parent, complete, history, key, selector, wire, wire_if, payload, push_body, own_body, parameters, target, consolidation, timeout, value, encoding, timestamp, qos, reliable, quality, reply_quality, source, attachment, responder, any_key, cancellation_token, interest, channel, handed_to, channel_kind, Value, first_of, behind, first_in, named_in, taken, option_in, maybe_in, named_wire_in, qos_in, quality_in, reply_quality_in, named_encoding_in, encoded, body_in, unnamed, unnamed_in, own_body_in, value_in, selector_of, read}
use Rattle.zs_script.proofs.PlainSymbols.{IsText, on-map, on-then, prefix-text}
use Rattle.zs_script.proofs.PlainParts.{AreTexts}
use Rattle.zs_event_lines.specs.Sayable.{if_there, says_encoding, says_wire, says_priority, says, is_wire, is_timestamp, is_entity, is_source, are_bytes, is_typed, gathered, kept}
use Rattle.zs_event_lines.proofs.ReadSymbols.{weaken, on-all, number-small, IsPayload, payload-reads, chars-said, IsEncoding, default-said, encoding-reads, key-reads, selector-reads, IsWire, wire-reads, timestamp-reads, entity-reads, source-reads, priority-reads, IsChannel, channel-reads}
use Rattle.zs_event_lines.proofs.EncodingsBack.{other-twice, other-there}

-- a value that a line says
abbrev pub IsSaid : (part : Part) → Value part → Type 0
IsSaid part v = (says part v ≡ true) × ((is_typed part v ≡ true) × (kept part v ≡ v))

-- a part of an event's line, whose absent priority is one that can be said
abbrev pub is_own : Part → Bool
is_own (qos least absent) = nat_le least 5
is_own channel_kind = false
is_own part = true

-- what is read, and the fields behind it
abbrev pub Reads : {A : Type 0} → (A → Type 0) → A × List (List ℕ) → Type 0
Reads P found = P found.0 × AreTexts found.1

behind-texts : (fields : List (List ℕ)) → AreTexts fields → AreTexts (behind fields)
behind-texts [] h = tt
behind-texts (field ∷ rest) h = h.1

first-reads : {A : Type 0} (symbol : List ℕ → Option A) (P : A → Type 0)
    → ((field : List ℕ) → IsText field → IfSome (symbol field) P) → (fields : List (List ℕ)) → AreTexts fields
    → IfSome (first_in symbol fields) (Reads P)
first-reads symbol P each [] h = tt
first-reads {A = A} symbol P each (field ∷ rest) h =
    on-map {A = A} {B = A × List (List ℕ)} (λ found. (found, rest)) P (Reads P) (λ found k. (k, h.1)) (symbol field) (each field h.0)

first-all : {A : Type 0} (symbol : List ℕ → Option A) (P : A → Type 0) → ((a : A) → P a) → (fields : List (List ℕ)) → AreTexts fields
    → IfSome (first_in symbol fields) (Reads P)
first-all symbol P each fields h = first-reads symbol P (λ field _. on-all P each (symbol field)) fields h

named-text : (name : List ℕ) → list_all (λ b. nat_lt b 128) name ≡ true → (fields : List (List ℕ)) → AreTexts fields
    → IfSome (named_in name fields) IsText
named-text name small [] h = tt
named-text name small (field ∷ rest) h = prefix-text name field small h.0

taken-reads : {A : Type 0} (absent : A) (P : A → Type 0) → P absent → (fields : List (List ℕ)) → AreTexts fields
    → (o : Option A) → IfSome o P → Reads P (taken absent fields o)
taken-reads absent P none fields h None k = (none, h)
taken-reads absent P none fields h (Some found) k = (k, behind-texts fields h)

option-reads : {A : Type 0} (name : List ℕ) (symbol : List ℕ → Option A) (absent : A) (P : A → Type 0)
    → list_all (λ b. nat_lt b 128) name ≡ true → P absent → ((text : List ℕ) → IsText text → IfSome (symbol text) P)
    → (fields : List (List ℕ)) → AreTexts fields → Reads P (option_in name symbol absent fields)
option-reads {A = A} name symbol absent P small none each fields h =
    taken-reads absent P none fields h (option_and_then symbol (named_in name fields))
    (on-then {A = List ℕ} {B = A} symbol IsText P each (named_in name fields) (named-text name small fields h))

option-all : {A : Type 0} (name : List ℕ) (symbol : List ℕ → Option A) (absent : A) (P : A → Type 0) → list_all (λ b. nat_lt b 128) name ≡ true
    → ((a : A) → P a) → (fields : List (List ℕ)) → AreTexts fields → Reads P (option_in name symbol absent fields)
option-all name symbol absent P small each fields h =
    option-reads name symbol absent P small (each absent) (λ text _. on-all P each (symbol text)) fields h

maybe-reads : {A : Type 0} (name : List ℕ) (symbol : List ℕ → Option A) (Q : A → Type 0) (P : Option A → Type 0)
    → list_all (λ b. nat_lt b 128) name ≡ true → P None → ((a : A) → Q a → P (Some a))
    → ((text : List ℕ) → IsText text → IfSome (symbol text) Q) → (fields : List (List ℕ)) → AreTexts fields
    → Reads P (maybe_in name symbol fields)
maybe-reads name symbol Q P small none some each fields h =
    option-reads name (λ text. option_map Some (symbol text)) None P small none (λ text k. on-map Some Q P some (symbol text) (each text k)) fields h

-- a value that may be missing, of which its type alone says something
maybe-typed : {A : Type 0} (name : List ℕ) (symbol : List ℕ → Option A) (test : A → Bool) (P : Option A → Type 0)
    → list_all (λ b. nat_lt b 128) name ≡ true → P None → ((a : A) → test a ≡ true → P (Some a))
    → ((text : List ℕ) → IfSome (symbol text) (λ a. test a ≡ true)) → (fields : List (List ℕ)) → AreTexts fields
    → Reads P (maybe_in name symbol fields)
maybe-typed name symbol test P small none some each fields h =
    maybe-reads name symbol (λ a. test a ≡ true) P small none some (λ text _. each text) fields h

-- what is put, with the encoding that it names
abbrev IsNamed : Option (List ℕ) → Type 0
IsNamed text = (if_there says_encoding text ≡ true) × (if_there all_scalars text ≡ true)

named-encoding-reads : (fields : List (List ℕ)) → AreTexts fields → Reads IsNamed (named_encoding_in fields)
named-encoding-reads fields h =
    maybe-reads (codes "enc=") encoding_text_of (λ text. (says_encoding text ≡ true) × (all_scalars text ≡ true)) IsNamed refl
    (refl, refl) (λ text k. k) encoding-reads fields h

put-reads : (found : List (List ℕ) × List (List ℕ)) → Reads IsPayload found
    → Reads (IsSaid (push_body put_kind)) (encoded found.0 (named_encoding_in found.1))
unfolding says is_typed kept
put-reads found k =
    let text = named-encoding-reads found.1 k.1 in
    let named = (named_encoding_in found.1).0 in
    ((text.0.0, (and_from _ _ k.0.0 text.0.1, ap (λ (bytes : List (List ℕ)). Put bytes named) k.0.1)), text.1)

body-reads : (kind : SampleKind) (fields : List (List ℕ)) → AreTexts fields
    → IfSome {T = PushBody × List (List ℕ)} (body_in kind fields) (Reads (IsSaid (push_body kind)))
unfolding says is_typed kept
body-reads put_kind fields h =
    on-map {A = List (List ℕ) × List (List ℕ)} {B = PushBody × List (List ℕ)} (λ found. encoded found.0 (named_encoding_in found.1))
    (Reads IsPayload) (Reads (IsSaid (push_body put_kind))) put-reads (first_in payload_of fields)
    (first-reads payload_of IsPayload (λ field _. payload-reads field) fields h)
body-reads delete_kind fields h = ((refl, (refl, refl)), h)

unnamed-said : (kind : SampleKind) (body : PushBody) → IsSaid (push_body kind) body → IsSaid (own_body kind) (unnamed body)
unfolding says is_typed kept
unnamed-said put_kind (Put bytes text) k =
    let typed = and_parts (are_bytes bytes) _ k.1.0 in (
      other-there says_encoding text k.0,
      (
        and_from _ _ typed.0 (other-there all_scalars text typed.1),
        ap (λ (o : Option (List ℕ)). Put (gathered bytes) o) (other-twice text) ∙ ap unnamed k.1.1,
      ),
    )
unnamed-said put_kind Delete k = cc k.0
unnamed-said delete_kind (Put bytes text) k = cc k.0
unnamed-said delete_kind Delete k = (refl, (refl, refl))

own-body-reads : (kind : SampleKind) (fields : List (List ℕ)) → AreTexts fields
    → IfSome {T = PushBody × List (List ℕ)} (own_body_in kind fields) (Reads (IsSaid (own_body kind)))
own-body-reads kind fields h =
    on-map {A = PushBody × List (List ℕ)} {B = PushBody × List (List ℕ)} unnamed_in (Reads (IsSaid (push_body kind)))
    (Reads (IsSaid (own_body kind))) (λ found k. (unnamed-said kind found.0 k.0, k.1)) (body_in kind fields) (body-reads kind fields h)

-- wire expressions that may be left out
abbrev IsWireIf : Option WireExpr → Type 0
IsWireIf w = (if_there says_wire w ≡ true) × (if_there is_wire w ≡ true)

first-text : (fields : List (List ℕ)) → AreTexts fields → IfSome (first_of fields) IsText
first-text [] h = tt
first-text (field ∷ rest) h = h.0

naming-reads : (w : WireExpr) → IsWire w → IsWireIf (naming (Some w))
naming-reads w h = go (names_nothing w) refl
  where
    go : (b : Bool) → names_nothing w ≡ b → IsWireIf (cond b None (Some w))
    go true e = (refl, refl)
    go false e = (rw e h.0, h.1)

named-wire-reads : (fields : List (List ℕ)) → AreTexts fields → Reads IsWireIf (named_wire_in fields)
named-wire-reads fields h =
    taken-reads None IsWireIf (refl, refl) fields h (option_map (λ w. naming (Some w)) (option_and_then wire_of (first_of fields)))
    (on-map {A = WireExpr} {B = Option WireExpr} (λ w. naming (Some w)) IsWire IsWireIf naming-reads (option_and_then wire_of (first_of fields))
    (on-then {A = List ℕ} {B = WireExpr} wire_of IsText IsWire wire-reads (first_of fields) (first-text fields h)))

-- values
abbrev IsValue : Option QueryValue → Type 0
IsValue v = IsSaid value v

value-made : (bytes : Option (List (List ℕ))) (text : Option (List ℕ)) → IfSome bytes IsPayload → IfSome text IsEncoding → IsValue (value_of bytes text)
unfolding says is_typed kept
value-made None None h k = (refl, (refl, refl))
value-made None (Some text) h k = (k.0, (and_from _ _ refl k.1, refl))
value-made (Some bytes) None h k =
    (default-said.0, (and_from _ _ h.0 default-said.1, ap (λ (b : List (List ℕ)). Some (record { payload = b; encoding = default_encoding })) h.1))
value-made (Some bytes) (Some text) h k =
    (k.0, (and_from _ _ h.0 k.1, ap (λ (b : List (List ℕ)). Some (record { payload = b; encoding = text })) h.1))

value-reads : (fields : List (List ℕ)) → AreTexts fields → Reads IsValue (value_in fields)
value-reads fields h =
    let bytes = maybe_in (codes "payload=") payload_of fields in
    let given : Reads (λ b. IfSome b IsPayload) bytes =
    maybe-reads (codes "payload=") payload_of IsPayload (λ b. IfSome b IsPayload) refl tt (λ b k. k) (λ text _. payload-reads text) fields h in
    let text : Reads (λ t. IfSome t IsEncoding) (maybe_in (codes "enc=") encoding_text_of bytes.1) =
    maybe-reads (codes "enc=") encoding_text_of IsEncoding (λ t. IfSome t IsEncoding) refl tt (λ t k. k) encoding-reads bytes.1 given.1 in
    (value-made bytes.0 (maybe_in (codes "enc=") encoding_text_of bytes.1).0 given.0 text.0, text.1)

-- quality of service
qos-reads : (least : ℕ) (absent : CongestionControl) → nat_le least 5 ≡ true → (fields : List (List ℕ)) → AreTexts fields
    → Reads (λ (q : QoSType). says_priority least q.priority ≡ true) (qos_in least absent fields)
qos-reads least absent own fields h =
    let priority = option_in (codes "prio=") (priority_of least) 5 fields in
    let congestion = option_in (codes "cc=") congestion_of absent priority.1 in
    let first : Reads (λ n. says_priority least n ≡ true) priority =
    option-reads (codes "prio=") (priority_of least) 5 (λ n. says_priority least n ≡ true) refl (and_from _ _ own refl) (λ text _. priority-reads least text) fields h in
    let second = option-all (codes "cc=") congestion_of absent (λ _. Unit {0}) refl (λ _. tt) priority.1 first.1 in
    let third = option-all (codes "express=") flag_of false (λ _. Unit {0}) refl (λ _. tt) congestion.1 second.1 in
    (first.0, third.1)

quality-reads : (fields : List (List ℕ)) → AreTexts fields → Reads (λ (q : PublicationQuality). says_priority 1 q.qos.priority ≡ true) (quality_in fields)
quality-reads fields h =
    let service = qos-reads 1 Drop refl fields h in
    (service.0, (option-all (codes "rel=") flag_of true (λ _. Unit {0}) refl (λ _. tt) (qos_in 1 Drop fields).1 service.1).1)

reply-quality-reads : (fields : List (List ℕ)) → AreTexts fields
    → Reads (λ (q : ReplyQuality). if_there (λ n. says_priority 1 n) q.priority ≡ true) (reply_quality_in fields)
reply-quality-reads fields h =
    let priority = maybe_in (codes "prio=") (priority_of 1) fields in
    let congestion = maybe_in (codes "cc=") congestion_of priority.1 in
    let first : Reads (λ o. if_there (λ n. says_priority 1 n) o ≡ true) priority =
    maybe-typed (codes "prio=") (priority_of 1) (λ n. says_priority 1 n) (λ o. if_there (λ n. says_priority 1 n) o ≡ true) refl refl (λ n k. k)
    (priority-reads 1) fields h in
    let second = option-all (codes "cc=") (λ text. option_map Some (congestion_of text)) None (λ _. Unit {0}) refl (λ _. tt) priority.1 first.1 in
    let third = option-all (codes "express=") (λ text. option_map Some (flag_of text)) None (λ _. Unit {0}) refl (λ _. tt) congestion.1 second.1 in
    (first.0, third.1)

-- a part whose value can be said whatever it is, or where this much of it is known
lift : {A : Type 0} (P Q : A → Type 0) → ((a : A) → P a → Q a) → (found : A × List (List ℕ)) → Reads P found → Reads Q found
lift P Q each found k = (each found.0 k.0, k.1)

-- every part
pub reads : (part : Part) → is_own part ≡ true → (fields : List (List ℕ)) → AreTexts fields
    → IfSome {T = Value part × List (List ℕ)} (read part fields) (Reads (IsSaid part))
unfolding read says is_typed kept
reads (number most) own fields h =
    first-reads (number_of most) (IsSaid (number most))
    (λ field _. weaken (λ n. nat_le n most ≡ true) (IsSaid (number most)) (λ n small. (refl, (small, refl))) (number_of most field) (number-small most field)) fields h
reads locality own fields h = first-all locality_of (IsSaid locality) (λ v. (refl, (refl, refl))) fields h
reads background_kind own fields h = first-all background_kind_of (IsSaid background_kind) (λ v. (refl, (refl, refl))) fields h
reads parent own fields h = first-all parent_of (IsSaid parent) (λ v. (refl, (refl, refl))) fields h
reads complete own fields h = first-all complete_of (IsSaid complete) (λ v. (refl, (refl, refl))) fields h
reads history own fields h = first-all history_of (IsSaid history) (λ v. (refl, (refl, refl))) fields h
reads key own fields h =
    first-reads (λ field. Some (key_of field)) (IsSaid key) (λ field k. let said = key-reads field k in (said.0, (said.1, refl))) fields h
reads selector own fields h =
    first-reads (λ field. Some (selector_of field)) (IsSaid selector)
    (λ field k. let said = selector-reads field k in
    (and_from _ _ said.0.0 (and_from _ _ said.1.0 said.1.1.0), (and_from _ _ said.0.1 said.1.1.1, refl))) fields h
reads wire own fields h =
    first-reads wire_of (IsSaid wire)
    (λ field k. weaken IsWire (IsSaid wire) (λ w said. (said.0, (said.1, refl))) (wire_of field) (wire-reads field k)) fields h
reads wire_if own fields h = lift IsWireIf (IsSaid wire_if) (λ w said. (said.0, (said.1, refl))) (named_wire_in fields) (named-wire-reads fields h)
reads payload own fields h =
    first-reads payload_of (IsSaid payload)
    (λ field _. weaken IsPayload (IsSaid payload) (λ bytes said. (refl, said)) (payload_of field) (payload-reads field)) fields h
reads (push_body kind) own fields h = body-reads kind fields h
reads (own_body kind) own fields h = own-body-reads kind fields h
reads parameters own fields h =
    option-reads (codes "params=") (λ text. Some (chars text)) [] (IsSaid parameters) refl (refl, (refl, refl))
    (λ text k. let said = chars-said text k in (said.0, (said.1, refl))) fields h
reads target own fields h = option-all (codes "target=") target_of _ (IsSaid target) refl (λ v. (refl, (refl, refl))) fields h
reads consolidation own fields h = option-all (codes "cons=") consolidation_of _ (IsSaid consolidation) refl (λ v. (refl, (refl, refl))) fields h
reads timeout own fields h =
    maybe-typed (codes "timeout=") (number_of u64_max) (λ n. nat_le n u64_max) (IsSaid timeout) refl (refl, (refl, refl)) (λ n k. (refl, (k, refl)))
    (number-small u64_max) fields h
reads value own fields h = value-reads fields h
reads encoding own fields h =
    option-reads (codes "enc=") encoding_text_of default_encoding (IsSaid encoding) refl (default-said.0, (default-said.1, refl))
    (λ text k. let said = encoding-reads text k in (said.0, (said.1, refl))) fields h
reads timestamp own fields h =
    maybe-typed (codes "ts=") timestamp_of is_timestamp (IsSaid timestamp) refl (refl, (refl, refl)) (λ t k. (refl, (k, refl))) timestamp-reads fields h
reads (qos least absent) own fields h =
    lift (λ (q : QoSType). says_priority least q.priority ≡ true) (IsSaid (qos least absent)) (λ q said. (said, (refl, refl))) (qos_in least absent fields)
    (qos-reads least absent own fields h)
reads reliable own fields h = option-all (codes "rel=") flag_of true (IsSaid reliable) refl (λ v. (refl, (refl, refl))) fields h
reads quality own fields h =
    lift (λ (q : PublicationQuality). says_priority 1 q.qos.priority ≡ true) (IsSaid quality) (λ q said. (said, (refl, refl))) (quality_in fields) (quality-reads fields h)
reads reply_quality own fields h =
    lift (λ (q : ReplyQuality). if_there (λ n. says_priority 1 n) q.priority ≡ true) (IsSaid reply_quality) (λ q said. (said, (refl, refl))) (reply_quality_in fields)
    (reply-quality-reads fields h)
reads source own fields h =
    maybe-typed (codes "src=") source_of is_source (IsSaid source) refl (refl, (refl, refl)) (λ s k. (refl, (k, refl))) source-reads fields h
reads attachment own fields h =
    maybe-reads (codes "att=") payload_of IsPayload (IsSaid attachment) refl (refl, (refl, refl)) (λ bytes k. (refl, (k.0, ap Some k.1)))
    (λ text _. payload-reads text) fields h
reads responder own fields h =
    maybe-typed (codes "by=") entity_of is_entity (IsSaid responder) refl (refl, (refl, refl)) (λ e k. (refl, (k, refl))) entity-reads fields h
reads any_key own fields h = option-all (codes "accept=") any_key_of false (IsSaid any_key) refl (λ v. (refl, (refl, refl))) fields h
reads cancellation_token own fields h =
    maybe-typed (codes "token=") (number_of u32_max) (λ n. nat_le n u32_max) (IsSaid cancellation_token) refl (refl, (refl, refl)) (λ n k. (refl, (k, refl)))
    (number-small u32_max) fields h
reads interest own fields h =
    maybe-typed (codes "interest=") (number_of u32_max) (λ n. nat_le n u32_max) (IsSaid interest) refl (refl, (refl, refl)) (λ n k. (refl, (k, refl)))
    (number-small u32_max) fields h
reads channel own fields h =
    taken-reads Print (IsSaid channel) (refl, (refl, refl)) fields h (option_and_then channel_of (first_of fields))
    (on-then channel_of IsText (IsSaid channel)
    (λ field _. weaken IsChannel (IsSaid channel) (λ c said. (said, (refl, refl))) (channel_of field) (channel-reads field)) (first_of fields) (first-text fields h))
reads handed_to own fields h =
    option-reads (codes "to=") channel_of Print (IsSaid handed_to) refl (refl, (refl, refl))
    (λ text _. weaken IsChannel (IsSaid handed_to) (λ c said. (said, (refl, refl))) (channel_of text) (channel-reads text)) fields h
reads channel_kind own fields h = cc
