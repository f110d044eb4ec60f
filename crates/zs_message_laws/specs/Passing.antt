-- Laws: what one session tells of a message, another reads as that message.
use Rattle.std.specs.Prelude.{ℕ, ◌≡◌, true, List, [], ◌∷◌, Option, None, Some}
use Rattle.std.specs.List.{list_all}
use Rattle.std.specs.Option.{option_map}
use Rattle.std.specs.Str.{all_scalars}
use Rattle.zs_bytes.specs.Payload.{bytes_of, one_slice}
use Rattle.zs_wire.specs.declared.body.Body.{Body}
use Rattle.zs_wire.specs.declared.body.Value.{Value}
use Rattle.zs_wire.specs.declared.message.Message.{Message}
use Rattle.zs_wire.specs.declared.message.Message.TheVariants.{DeclareKeyExpr, UndeclareKeyExpr, DeclareSubscriber, UndeclareSubscriber, DeclareQueryable, UndeclareQueryable, DeclareToken, UndeclareToken, DeclareFinal, Interest, Push, Request, Response, ResponseFinal, Close}
use Rattle.zs_wire.specs.declared.response.Answered.{Answered}
use Rattle.zs_wire.specs.declared.response.Answered.TheVariants.{Reply, Err}
use Rattle.zs_wire.specs.declared.wire_expr.WireExpr.{WireExpr}
use Rattle.zs_message_forms.specs.Contents.{Contents, message_parts}
use Rattle.zs_message_forms.specs.Messages.{message_of}
use Rattle.zs_message_forms.specs.Numbers.{message_form}
use Rattle.zs_message_forms.specs.declared.forms.PartsForm.{PartsForm}

-- the same bytes in one slice
abbrev pub gathered : List (List ℕ) → List (List ℕ)
gathered slices = one_slice (bytes_of slices)

-- a message but for how its payload and its attachment are sliced
abbrev pub gathered_value : Value → Value
gathered_value v = record { payload = gathered v.payload; encoding = v.encoding }

abbrev pub gathered_body : Body → Body
gathered_body b = record b { payload = gathered b.payload; attachment = option_map gathered b.attachment }

abbrev pub gathered_answered : Answered → Answered
gathered_answered (Reply body) = Reply (gathered_body body)
gathered_answered (Err value) = Err (gathered_value value)

abbrev pub gathered_message : Message → Message
gathered_message (DeclareKeyExpr number wire) = DeclareKeyExpr number wire
gathered_message (UndeclareKeyExpr number) = UndeclareKeyExpr number
gathered_message (DeclareSubscriber id wire) = DeclareSubscriber id wire
gathered_message (UndeclareSubscriber id) = UndeclareSubscriber id
gathered_message (DeclareQueryable id complete wire) = DeclareQueryable id complete wire
gathered_message (UndeclareQueryable id) = UndeclareQueryable id
gathered_message (DeclareToken id wire interest) = DeclareToken id wire interest
gathered_message (UndeclareToken id wire interest) = UndeclareToken id wire interest
gathered_message (DeclareFinal interest) = DeclareFinal interest
gathered_message (Interest id mode what wire) = Interest id mode what wire
gathered_message (Push p) = Push (record p { body = gathered_body p.body })
gathered_message (Request r) =
    Request (record r { value = option_map gathered_value r.value; attachment = option_map gathered r.attachment })
gathered_message (Response r) = Response (record r { answered = gathered_answered r.answered })
gathered_message (ResponseFinal id) = ResponseFinal id
gathered_message Close = Close

-- the texts of a message
abbrev pub named_texts : Option WireExpr → List (List ℕ)
named_texts (Some wire) = wire.suffix ∷ []
named_texts None = []

abbrev pub value_texts : Option Value → List (List ℕ)
value_texts (Some value) = value.encoding ∷ []
value_texts None = []

abbrev pub answered_encoding : Answered → List ℕ
answered_encoding (Reply body) = body.encoding
answered_encoding (Err value) = value.encoding

abbrev pub texts_of : Message → List (List ℕ)
texts_of (DeclareKeyExpr number wire) = wire.suffix ∷ []
texts_of (UndeclareKeyExpr number) = []
texts_of (DeclareSubscriber id wire) = wire.suffix ∷ []
texts_of (UndeclareSubscriber id) = []
texts_of (DeclareQueryable id complete wire) = wire.suffix ∷ []
texts_of (UndeclareQueryable id) = []
texts_of (DeclareToken id wire interest) = wire.suffix ∷ []
texts_of (UndeclareToken id wire interest) = named_texts wire
texts_of (DeclareFinal interest) = []
texts_of (Interest id mode what wire) = named_texts wire
texts_of (Push p) = p.wire.suffix ∷ p.body.encoding ∷ []
texts_of (Request r) = r.wire.suffix ∷ r.parameters ∷ value_texts r.value
texts_of (Response r) = r.wire.suffix ∷ answered_encoding r.answered ∷ []
texts_of (ResponseFinal id) = []
texts_of Close = []

-- these bytes are lent
pub record IsLent (contents : Contents) (parts : PartsForm) : Type 0 where
  pub key : parts.key.now ≡ contents.key
  pub payload : parts.payload.now ≡ contents.payload
  pub encoding : parts.encoding.now ≡ contents.encoding
  pub parameters : parts.parameters.now ≡ contents.parameters
  pub attachment : parts.attachment.now ≡ contents.attachment

-- a message whose texts are of Unicode characters, as all texts of a program are, is read from the numbers and bytes by which it is
-- told, but for how its payload and its attachment are sliced
abbrev pub MessagesPass : Type 0
MessagesPass = (message : Message) (parts : PartsForm) → list_all all_scalars (texts_of message) ≡ true
    → IsLent (message_parts message) parts → message_of (message_form message) parts ≡ Some (gathered_message message)
