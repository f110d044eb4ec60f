-- The pieces that printed lines are made of.
use Rattle.std.specs.Prelude.{ℕ, Bool, List, [], ◌∷◌, ◌++◌, Option, Some, None, codes, decimal, encode_utf8_all}
use Rattle.std.specs.List.{flat_map}
use Rattle.zs_wire.specs.declared.body.Value.{Value}
use Rattle.zs_wire.specs.declared.origin.EntityGlobalId.{EntityGlobalId}
use Rattle.zs_wire.specs.declared.origin.SourceInfo.{SourceInfo}
use Rattle.zs_wire.specs.declared.origin.Timestamp.{Timestamp}
use Rattle.zs_wire.specs.declared.quality.QoSType.{QoSType}
use Rattle.zs_wire.specs.declared.request.ConsolidationMode.{ConsolidationMode}
use Rattle.zs_wire.specs.declared.request.QueryTarget.{QueryTarget}
use Rattle.zs_wire.specs.declared.wire_expr.WireExpr.{WireExpr}
use Rattle.zs_printing.specs.Words.{congestion_word, flag_digit, target_word, consolidation_word, bytes_text, wire_text, timestamp_text, entity_text, source_text}

pub data Piece : Type 0 where
  word : List ℕ → Piece
  number : ℕ → Piece
  wire : WireExpr → Piece
  wire_if : Option WireExpr → Piece
  payload : List (List ℕ) → Piece
  parameters : List ℕ → Piece
  target : QueryTarget → Piece
  consolidation : ConsolidationMode → Piece
  timeout : ℕ → Piece
  value : Option Value → Piece
  payload_if : Option (List (List ℕ)) → Piece
  encoding : List ℕ → Piece
  encoding_if : Option (List ℕ) → Piece
  timestamp : Option Timestamp → Piece
  qos : QoSType → Piece
  reliable : Bool → Piece
  source : Option SourceInfo → Piece
  attachment : Option (List (List ℕ)) → Piece
  responder : Option EntityGlobalId → Piece
  interest : Option ℕ → Piece

-- an option
abbrev pub named : List ℕ → List ℕ → List ℕ
named name text = name ++ text

-- a field, if there is something to print
abbrev pub field_if : {A : Type 0} → (A → List ℕ) → Option A → List (List ℕ)
field_if text None = []
field_if text (Some a) = text a ∷ []

-- the bytes of parameters, where there are any
abbrev pub parameter_fields : List ℕ → List (List ℕ)
parameter_fields [] = []
parameter_fields (b ∷ bs) = named (codes "params=") (b ∷ bs) ∷ []

-- an encoding
abbrev pub encoding_field : List ℕ → List ℕ
encoding_field text = named (codes "enc=") (encode_utf8_all text)

-- the payload of a value
abbrev pub payload_field : List (List ℕ) → List ℕ
payload_field bytes = named (codes "payload=") (bytes_text bytes)

-- a value, if there is one: its payload and its encoding
abbrev pub value_fields : Option Value → List (List ℕ)
value_fields None = []
value_fields (Some v) = payload_field v.payload ∷ encoding_field v.encoding ∷ []

-- the fields of a piece
unfoldable pub written : Piece → List (List ℕ)
written (word text) = text ∷ []
written (number n) = decimal n ∷ []
written (wire w) = wire_text w ∷ []
written (wire_if w) = field_if wire_text w
written (payload bytes) = bytes_text bytes ∷ []
written (parameters text) = parameter_fields text
written (target t) = named (codes "target=") (target_word t) ∷ []
written (consolidation mode) = named (codes "cons=") (consolidation_word mode) ∷ []
written (timeout n) = named (codes "timeout=") (decimal n) ∷ []
written (value v) = value_fields v
written (payload_if bytes) = field_if payload_field bytes
written (encoding text) = encoding_field text ∷ []
written (encoding_if text) = field_if encoding_field text
written (timestamp time) = field_if (λ t. named (codes "ts=") (timestamp_text t)) time
written (qos q) =
    named (codes "prio=") (decimal q.priority)
    ∷ named (codes "cc=") (congestion_word q.congestion)
    ∷ named (codes "express=") (flag_digit q.express) ∷ []
written (reliable flag) = named (codes "rel=") (flag_digit flag) ∷ []
written (source origin) = field_if (λ s. named (codes "src=") (source_text s)) origin
written (attachment bytes) = field_if (λ b. named (codes "att=") (bytes_text b)) bytes
written (responder id) = field_if (λ e. named (codes "by=") (entity_text e)) id
written (interest id) = field_if (λ n. named (codes "interest=") (decimal n)) id

-- the fields of a list of pieces
abbrev pub pieces_fields : List Piece → List (List ℕ)
pieces_fields pieces = flat_map written pieces

-- a field behind a tab
abbrev pub tab : List ℕ → List ℕ
tab field = 9 ∷ field

-- fields behind tabs, with nothing behind the last
abbrev pub tabs : List (List ℕ) → List ℕ
tabs [] = []
tabs (field ∷ []) = tab field
tabs (field ∷ next ∷ more) = tab field ++ tabs (next ∷ more)

-- the fields of a piece, each behind a tab
unfoldable pub piece_text : Piece → List ℕ
piece_text piece = tabs (written piece)

-- the fields of a list of pieces, each behind a tab
abbrev pub pieces_text : List Piece → List ℕ
pieces_text pieces = flat_map piece_text pieces
