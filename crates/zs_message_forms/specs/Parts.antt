-- The parts that several messages have.
use Rattle.std.specs.Prelude.{ℕ, if◌then◌else◌, Bool, List, Option, None, Some}
use Rattle.zs_bytes.specs.Payload.{one_slice}
use Rattle.zs_wire.specs.declared.body.Body.{Body}
use Rattle.zs_wire.specs.declared.quality.QoSType.{QoSType}
use Rattle.zs_wire.specs.declared.sample_kind.SampleKind.{SampleKind}
use Rattle.zs_wire.specs.declared.sample_kind.SampleKind.TheVariants.{Put, Delete}
use Rattle.zs_wire.specs.declared.wire_expr.Mapping.{Mapping}
use Rattle.zs_wire.specs.declared.wire_expr.Mapping.TheVariants.{Sender, Receiver}
use Rattle.zs_wire.specs.declared.wire_expr.WireExpr.{WireExpr}
use Rattle.zs_forms.specs.Origins.{timestamp_of, source_of}
use Rattle.zs_forms.specs.Quality.{congestion_of}
use Rattle.zs_forms.specs.Texts.{text_in}
use Rattle.zs_forms.specs.Updates.{attachment_of}
use Rattle.zs_message_forms.specs.declared.forms.MessageForm.{MessageForm}
use Rattle.zs_message_forms.specs.declared.forms.PartsForm.{PartsForm}

-- who declared a number
abbrev pub mapping_of : Bool → Mapping
mapping_of by_receiver = if by_receiver then Receiver else Sender

-- a key, if its text is known
abbrev pub wire_with : MessageForm → Option (List ℕ) → Option WireExpr
wire_with f (Some text) = Some (record { scope = f.scope; suffix = text; mapping = mapping_of f.by_receiver })
wire_with f None = None

abbrev pub wire_of : MessageForm → PartsForm → Option WireExpr
wire_of f p = wire_with f (text_in p.key.now)

-- the key that is named, or none; there is no answer where its text is not known
abbrev pub named_with : Option WireExpr → Option (Option WireExpr)
named_with (Some wire) = Some (Some wire)
named_with None = None

abbrev pub named_of : MessageForm → PartsForm → Option (Option WireExpr)
named_of f p = if f.has_key then named_with (wire_of f p) else Some None

-- the interest that is named
abbrev pub interest_of : MessageForm → Option ℕ
interest_of f = if f.has_interest then Some f.interest else None

-- whether a body deletes
abbrev pub kind_of : Bool → SampleKind
kind_of deletes = if deletes then Delete else Put

-- the quality of service
abbrev pub message_qos : MessageForm → QoSType
message_qos f = record { priority = f.priority; congestion = congestion_of f.blocks; express = f.express }

-- what is said of a key, if the encoding is known
abbrev pub body_with : MessageForm → PartsForm → Option (List ℕ) → Option Body
body_with f p (Some encoding) = Some (record {
  kind = kind_of f.deletes;
  payload = one_slice p.payload.now;
  encoding = encoding;
  timestamp = timestamp_of f.timestamp;
  source = source_of f.source;
  attachment = attachment_of f.has_attachment p.attachment.now;
})
body_with f p None = None

abbrev pub body_of : MessageForm → PartsForm → Option Body
body_of f p = body_with f p (text_in p.encoding.now)
