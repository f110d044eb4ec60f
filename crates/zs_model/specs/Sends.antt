-- What an event sends to the network, and the form that a message gives a key, given what is known of declared keys.
use Rattle.std.specs.Prelude.{ℕ, ◌-◌, Bool, false, not, ◌==◌, ◌&&◌, nat_le, is_some, length, drop, List, [], ◌∷◌, Option, Some, None, option_map, unwrap_or, chars, if◌then◌else◌, encode_utf8_all}
use Rattle.std.specs.List.{starts_with}
use Rattle.zs_keys.specs.declared.declaration.Declared.{Declared}
use Rattle.zs_wire.specs.declared.message.Message.{Message}
use Rattle.zs_wire.specs.declared.message.Message.TheVariants.{DeclareKeyExpr, UndeclareKeyExpr, Push, Close as close_message}
use Rattle.zs_wire.specs.declared.wire_expr.Mapping.TheVariants.{Sender}
use Rattle.zs_wire.specs.declared.wire_expr.WireExpr.{WireExpr}
use Rattle.zs_subscriptions.specs.Recipients.{has_network}
use Rattle.zs_events.specs.declared.event.Event.{Event}
use Rattle.zs_events.specs.declared.event.Event.TheVariants.{Key, UndeclareKey, Close}
use Rattle.zs_events.specs.declared.key_arg.KeyArg.{KeyArg}
use Rattle.zs_events.specs.declared.key_arg.KeyArg.TheVariants.{Text, Number, Declared as declared_text}
use Rattle.zs_events.specs.declared.turn.Effect.{Effect}
use Rattle.zs_events.specs.declared.turn.Effect.TheVariants.{Send}
use Rattle.zs_events.specs.Kinds.{NamedKey, OwnKey, PublisherKey, QuerierKey, Publishes, NoContent, OwnContent, ByPublisher, row_of}
use Rattle.zs_events.specs.declared.publication.Content.{Content}
use Rattle.zs_keys.specs.Key.{Key as a_key}
use Rattle.zs_model.specs.declared.publisher.PubRow.{PubRow}
use Rattle.zs_model.specs.Publishers.{resolved}
use Rattle.zs_model.specs.Groups.{aggregate_of}

-- what is known of the keys that this session declared: its tag, the text that a number stands for, how many hold it, and the
-- number of a text
pub record OwnKeys : Type 0 where
  pub tag : ℕ
  pub text_of : ℕ → Option (List ℕ)
  pub count_of : ℕ → ℕ
  pub number_of : List ℕ → Option ℕ
  -- the declaration of a publisher's key, by the publisher's number
  pub published : ℕ → Option Declared
  -- and that of a querier's
  pub queried : ℕ → Option Declared

-- whether a text begins with what a number stands for, which is as long as was declared
abbrev pub has_front : List ℕ → ℕ → Option (List ℕ) → Bool
has_front text prefix_len None = false
has_front text prefix_len (Some held) = length held == prefix_len && starts_with (λ a b. a == b) text held

-- whether a key goes by the number of its declaration: it is one of this session, and its number, which is not 0, is held and
-- stands for the declared front of the text
abbrev pub goes_by_number : OwnKeys → List ℕ → Declared → Bool
goes_by_number k text d = d.tag == k.tag && not (d.number == 0) && has_front text d.prefix_len (k.text_of d.number)

-- a key in a message: by its whole text, or by a number and the rest of it
abbrev pub full_wire : List ℕ → WireExpr
full_wire text = record { scope = 0; suffix = chars text; mapping = Sender }

abbrev pub number_wire : List ℕ → Declared → WireExpr
number_wire text d = record { scope = d.number; suffix = chars (drop d.prefix_len text); mapping = Sender }

-- the form that a message gives a key: by its number where it goes by that, else by its whole text
abbrev pub wire_form : OwnKeys → List ℕ → Option Declared → WireExpr
wire_form k text None = full_wire text
wire_form k text (Some d) = if goes_by_number k text d then number_wire text d else full_wire text

-- the declaration of a key argument that stands for a text
abbrev pub declared_by : OwnKeys → List ℕ → KeyArg → Option Declared
declared_by k text (Text whole) = None
declared_by k text (Number number suffix) =
    Some (record { number = number; prefix_len = length text - length (encode_utf8_all suffix); tag = k.tag })
declared_by k text (declared_text whole number prefix_len) = Some (record { number = number; prefix_len = prefix_len; tag = k.tag })

-- the declaration of a publisher's key, where it was named by a declared one
abbrev pub prefix_declaration : ℕ → Option PubRow → Option Declared
prefix_declaration tag None = None
prefix_declaration tag (Some row) = option_map (λ p. record { number = p.number; prefix_len = p.len; tag = tag }) row.prefix

-- the form of a key in the declaration of its group: the whole text of its aggregate, where it has one
abbrev pub group_wire : List a_key → List ℕ → WireExpr → WireExpr
group_wire aggregates text own = unwrap_or (option_map (λ a. full_wire a.text) (aggregate_of aggregates text)) own

-- the declaration of a named key: one from the network has none
abbrev pub declaration_of : OwnKeys → List ℕ → NamedKey → Option Declared
declaration_of k text (OwnKey key) = declared_by k text key
declaration_of k text (PublisherKey id) = k.published id
declaration_of k text (QuerierKey id) = k.queried id
declaration_of k text key = None

-- a declared key is sent where its text is not held yet
abbrev pub key_sends : OwnKeys → Option ℕ → Option (List ℕ) → List Effect
key_sends k number None = []
key_sends k None (Some text) = []
key_sends k (Some number) (Some text) = if is_some (k.number_of text) then [] else Send (DeclareKeyExpr number (full_wire text)) ∷ []

-- that a number ends is sent where it is given back for the last time
abbrev pub return_sends : OwnKeys → ℕ → List Effect
return_sends k number = if nat_le (k.count_of number) 1 then Send (UndeclareKeyExpr number) ∷ [] else []

abbrev pub return_sends_of : OwnKeys → KeyArg → List Effect
return_sends_of k (Text text) = []
return_sends_of k (Number number suffix) = return_sends k number
return_sends_of k (declared_text text number prefix_len) = return_sends k number

-- a publication that goes to the network: one made here, for a destination that has the network in it
abbrev pub is_sent : Content → Bool
is_sent c = c.local && has_network c.destination

-- its message, with this form of its key
abbrev pub push_with : WireExpr → Content → Message
push_with wire c = Push (record { wire = wire; body = c.body; qos = c.qos; reliable = c.reliable })

-- what a publication sends
abbrev pub push_sends : OwnKeys → List ℕ → Option Declared → Content → List Effect
push_sends k text declaration c = if is_sent c then Send (push_with (wire_form k text declaration) c) ∷ [] else []

abbrev pub publication_sends : OwnKeys → NamedKey → Option (List ℕ) → Publishes → List Effect
publication_sends k key text NoContent = []
publication_sends k key None (OwnContent c) = []
publication_sends k key (Some text) (OwnContent c) = push_sends k text (declaration_of k text key) c
publication_sends k key text (ByPublisher id c) = []

-- what an accepted event sends, given the number that it is answered and the text of its key
abbrev pub sends_of : OwnKeys → List PubRow → Option ℕ → Option (List ℕ) → Event → List Effect
sends_of k pubs number text (Key key) = key_sends k number text
sends_of k pubs number text (UndeclareKey key) = return_sends_of k key
sends_of k pubs number text Close = Send close_message ∷ []
sends_of k pubs number text e = publication_sends k (row_of e).key text (resolved pubs (row_of e).publishes)
