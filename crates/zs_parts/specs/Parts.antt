-- The parts that the forms of lines are made of: how each is read off the front of a line's fields, and forms as lists of parts.
use Rattle.std.specs.Prelude.{ℕ, ◌==◌, Bool, true, false, List, [], ◌∷◌, Option, Some, None, option_map, option_and_then, codes}
use Rattle.std.specs.List.{before_first, after_first}
use Rattle.std.specs.Str.{chars}
use Rattle.zs_sample.specs.declared.locality.Locality.{Locality}
use Rattle.zs_wire.specs.declared.body.Value.{Value as QueryValue}
use Rattle.zs_wire.specs.declared.origin.EntityGlobalId.{EntityGlobalId}
use Rattle.zs_wire.specs.declared.origin.SourceInfo.{SourceInfo}
use Rattle.zs_wire.specs.declared.origin.Timestamp.{Timestamp}
use Rattle.zs_wire.specs.declared.quality.CongestionControl.{CongestionControl}
use Rattle.zs_wire.specs.declared.quality.CongestionControl.TheVariants.{Drop}
use Rattle.zs_wire.specs.declared.quality.QoSType.{QoSType}
use Rattle.zs_wire.specs.declared.request.ConsolidationMode.{ConsolidationMode}
use Rattle.zs_wire.specs.declared.request.ConsolidationMode.TheVariants.{Auto}
use Rattle.zs_wire.specs.declared.request.QueryTarget.{QueryTarget}
use Rattle.zs_wire.specs.declared.request.QueryTarget.TheVariants.{BestMatching}
use Rattle.zs_wire.specs.declared.sample_kind.SampleKind.{SampleKind}
use Rattle.zs_wire.specs.declared.sample_kind.SampleKind.TheVariants.{Put as put_kind, Delete as delete_kind}
use Rattle.zs_wire.specs.declared.wire_expr.WireExpr.{WireExpr}
use Rattle.zs_events.specs.declared.chan.Chan.{Chan}
use Rattle.zs_events.specs.declared.chan.Chan.TheVariants.{Print}
use Rattle.zs_events.specs.declared.entity_kind.BackgroundKind.{BackgroundKind}
use Rattle.zs_events.specs.declared.key_arg.KeyArg.{KeyArg}
use Rattle.zs_events.specs.declared.entity_kind.ParentKind.{ParentKind}
use Rattle.zs_events.specs.declared.publication.PublicationQuality.{PublicationQuality}
use Rattle.zs_events.specs.declared.publication.ReplyQuality.{ReplyQuality}
use Rattle.zs_events.specs.declared.turn.Kind.{Kind}
use Rattle.zs_events.specs.declared.update.PushBody.{PushBody}
use Rattle.zs_events.specs.declared.update.PushBody.TheVariants.{Put, Delete}
use Rattle.zs_events.specs.Updates.{default_encoding}
use Rattle.zs_parts.specs.Symbols.{number_of, u32_max, u64_max, locality_of, background_kind_of, parent_of, complete_of, history_of, key_of, payload_of, after_prefix, wire_of, naming}
use Rattle.zs_parts.specs.Options.{timestamp_of, entity_of, source_of, encoding_text_of, named_encoding, priority_of, congestion_of, flag_of, target_of, consolidation_of, any_key_of, value_of}
use Rattle.zs_parts.specs.Channels.{channel_of, channel_kind_of}

-- fields that have to be there, and then options, each with what it is where it is absent
pub data Part : Type 0 where
  number : (most : ℕ) → Part
  locality : Part
  background_kind : Part
  parent : Part
  complete : Part
  history : Part
  key : Part
  selector : Part
  wire : Part
  wire_if : Part
  payload : Part
  -- what is put, with the encoding that it names, or nothing to read where a value is deleted
  push_body : (kind : SampleKind) → Part
  -- the same where nobody else names an encoding: to name the default one says no more than to name none
  own_body : (kind : SampleKind) → Part
  -- options of queries
  parameters : Part
  target : Part
  consolidation : Part
  timeout : Part
  value : Part
  -- options of publications, and most of them also of queries and replies
  encoding : Part
  timestamp : Part
  qos : (least : ℕ) (absent : CongestionControl) → Part
  reliable : Part
  quality : Part
  reply_quality : Part
  source : Part
  attachment : Part
  responder : Part
  any_key : Part
  cancellation_token : Part
  interest : Part
  -- where items go, as a field that may be left out and as an option, and what has a channel
  channel : Part
  handed_to : Part
  channel_kind : Part

-- what a part is read as
abbrev pub Value : Part → Type 0
Value (number most) = ℕ
Value locality = Locality
Value background_kind = BackgroundKind
Value parent = ParentKind
Value complete = Bool
Value history = Bool
Value key = KeyArg
Value selector = KeyArg × List ℕ
Value wire = WireExpr
Value wire_if = Option WireExpr
Value payload = List (List ℕ)
Value (push_body kind) = PushBody
Value (own_body kind) = PushBody
Value parameters = List ℕ
Value target = QueryTarget
Value consolidation = ConsolidationMode
Value timeout = Option ℕ
Value value = Option QueryValue
Value encoding = List ℕ
Value timestamp = Option Timestamp
Value (qos least absent) = QoSType
Value reliable = Bool
Value quality = PublicationQuality
Value reply_quality = ReplyQuality
Value source = Option SourceInfo
Value attachment = Option (List (List ℕ))
Value responder = Option EntityGlobalId
Value any_key = Bool
Value cancellation_token = Option ℕ
Value interest = Option ℕ
Value channel = Chan
Value handed_to = Chan
Value channel_kind = Kind

-- the first field, and the fields behind it
abbrev pub first_of : List (List ℕ) → Option (List ℕ)
first_of [] = None
first_of (field ∷ rest) = Some field

abbrev pub behind : List (List ℕ) → List (List ℕ)
behind [] = []
behind (field ∷ rest) = rest

-- a field that has to be there
abbrev pub first_in : {A : Type 0} → (List ℕ → Option A) → List (List ℕ) → Option (A × List (List ℕ))
first_in symbol [] = None
first_in symbol (field ∷ rest) = option_map (λ found. (found, rest)) (symbol field)

-- the value of an option, if the first field is that option
abbrev pub named_in : List ℕ → List (List ℕ) → Option (List ℕ)
named_in name [] = None
named_in name (field ∷ rest) = after_prefix name field

-- an option that was found, or what it is where it is absent
abbrev pub taken : {A : Type 0} → A → List (List ℕ) → Option A → A × List (List ℕ)
taken absent fields None = (absent, fields)
taken absent fields (Some found) = (found, behind fields)

-- an option: a value out of form is not taken, so that it is left over
abbrev pub option_in : {A : Type 0} → List ℕ → (List ℕ → Option A) → A → List (List ℕ) → A × List (List ℕ)
option_in name symbol absent fields = taken absent fields (option_and_then symbol (named_in name fields))

-- the same where nothing stands for an absent one
abbrev pub maybe_in : {A : Type 0} → List ℕ → (List ℕ → Option A) → List (List ℕ) → Option A × List (List ℕ)
maybe_in name symbol fields = option_in name (λ text. option_map Some (symbol text)) None fields

-- a wire expression that may be left out: one that names nothing is like none
abbrev pub named_wire_in : List (List ℕ) → Option WireExpr × List (List ℕ)
named_wire_in fields = taken None fields (option_map (λ w. naming (Some w)) (option_and_then wire_of (first_of fields)))

-- quality of service: three options
abbrev pub qos_in : ℕ → CongestionControl → List (List ℕ) → QoSType × List (List ℕ)
qos_in least absent fields =
    let priority = option_in (codes "prio=") (priority_of least) 5 fields in
    let congestion = option_in (codes "cc=") congestion_of absent priority.1 in
    let express = option_in (codes "express=") flag_of false congestion.1 in
    (record { priority = priority.0; congestion = congestion.0; express = express.0 }, express.1)

-- quality of service of a publication, and of a reply, which is as its query has it where it says nothing
abbrev pub quality_in : List (List ℕ) → PublicationQuality × List (List ℕ)
quality_in fields =
    let service = qos_in 1 Drop fields in
    let flag = option_in (codes "rel=") flag_of true service.1 in
    (record { qos = service.0; reliable = flag.0 }, flag.1)

abbrev pub reply_quality_in : List (List ℕ) → ReplyQuality × List (List ℕ)
reply_quality_in fields =
    let priority = maybe_in (codes "prio=") (priority_of 1) fields in
    let congestion = maybe_in (codes "cc=") congestion_of priority.1 in
    let express = maybe_in (codes "express=") flag_of congestion.1 in
    (record { priority = priority.0; congestion = congestion.0; express = express.0 }, express.1)

-- an encoding, if one is named
abbrev pub named_encoding_in : List (List ℕ) → Option (List ℕ) × List (List ℕ)
named_encoding_in fields = maybe_in (codes "enc=") encoding_text_of fields

-- what is put: a payload, and the encoding that it names
abbrev pub encoded : List (List ℕ) → Option (List ℕ) × List (List ℕ) → PushBody × List (List ℕ)
encoded bytes text = (Put bytes text.0, text.1)

abbrev pub body_in : SampleKind → List (List ℕ) → Option (PushBody × List (List ℕ))
body_in put_kind fields = option_map (λ found. encoded found.0 (named_encoding_in found.1)) (first_in payload_of fields)
body_in delete_kind fields = Some (Delete, fields)

-- what is put, where the default encoding is as good as none
abbrev pub unnamed : PushBody → PushBody
unnamed (Put bytes text) = Put bytes (option_and_then named_encoding text)
unnamed Delete = Delete

abbrev pub unnamed_in : PushBody × List (List ℕ) → PushBody × List (List ℕ)
unnamed_in found = (unnamed found.0, found.1)

abbrev pub own_body_in : SampleKind → List (List ℕ) → Option (PushBody × List (List ℕ))
own_body_in kind fields = option_map unnamed_in (body_in kind fields)

-- a value: two options
abbrev pub value_in : List (List ℕ) → Option QueryValue × List (List ℕ)
value_in fields =
    let bytes = maybe_in (codes "payload=") payload_of fields in
    let text = maybe_in (codes "enc=") encoding_text_of bytes.1 in
    (value_of bytes.0 text.0, text.1)

-- a key and the parameters behind its first `?`
abbrev pub selector_of : List ℕ → KeyArg × List ℕ
selector_of field = (key_of (before_first (λ b. b == 63) field), chars (after_first (λ b. b == 63) field))

-- a part off the front of the fields, and the fields that are left
unfoldable pub read : (part : Part) → List (List ℕ) → Option (Value part × List (List ℕ))
read (number most) fields = first_in (number_of most) fields
read locality fields = first_in locality_of fields
read background_kind fields = first_in background_kind_of fields
read parent fields = first_in parent_of fields
read complete fields = first_in complete_of fields
read history fields = first_in history_of fields
read key fields = first_in (λ field. Some (key_of field)) fields
read selector fields = first_in (λ field. Some (selector_of field)) fields
read wire fields = first_in wire_of fields
read wire_if fields = Some (named_wire_in fields)
read payload fields = first_in payload_of fields
read (push_body kind) fields = body_in kind fields
read (own_body kind) fields = own_body_in kind fields
read parameters fields = Some (option_in (codes "params=") (λ text. Some (chars text)) [] fields)
read target fields = Some (option_in (codes "target=") target_of BestMatching fields)
read consolidation fields = Some (option_in (codes "cons=") consolidation_of Auto fields)
read timeout fields = Some (maybe_in (codes "timeout=") (number_of u64_max) fields)
read value fields = Some (value_in fields)
read encoding fields = Some (option_in (codes "enc=") encoding_text_of default_encoding fields)
read timestamp fields = Some (maybe_in (codes "ts=") timestamp_of fields)
read (qos least absent) fields = Some (qos_in least absent fields)
read reliable fields = Some (option_in (codes "rel=") flag_of true fields)
read quality fields = Some (quality_in fields)
read reply_quality fields = Some (reply_quality_in fields)
read source fields = Some (maybe_in (codes "src=") source_of fields)
read attachment fields = Some (maybe_in (codes "att=") payload_of fields)
read responder fields = Some (maybe_in (codes "by=") entity_of fields)
read any_key fields = Some (option_in (codes "accept=") any_key_of false fields)
read cancellation_token fields = Some (maybe_in (codes "token=") (number_of u32_max) fields)
read interest fields = Some (maybe_in (codes "interest=") (number_of u32_max) fields)
read channel fields = Some (taken Print fields (option_and_then channel_of (first_of fields)))
read handed_to fields = Some (option_in (codes "to=") channel_of Print fields)
read channel_kind fields = first_in channel_kind_of fields

-- what makes something of the values of these parts
abbrev pub Maker : List Part → Type 0 → Type 0
Maker [] A = A
Maker (part ∷ parts) A = Value part → Maker parts A

-- what a form makes of fields: each part is read in its turn, and no field is left over
unfoldable pub form : {A : Type 0} (parts : List Part) → Maker parts A → List (List ℕ) → Option A
form [] made [] = Some made
form [] made (field ∷ rest) = None
form (part ∷ parts) make fields = option_and_then (λ found. form parts (make found.0) found.1) (read part fields)
