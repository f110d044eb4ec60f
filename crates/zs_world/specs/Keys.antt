-- What keys stand for, by the tables.
use Rattle.std.specs.Prelude.{ℕ, Bool, true, false, not, ◌&&◌, ◌==◌, List, ◌++◌, Option, Some, None, option_map, Result, Ok, Err, if◌then◌else◌, encode_utf8_all}
use Rattle.std.specs.Str.{bytes_eq}
use Rattle.zs_keys.specs.Key.{Key, undeclared}
use Rattle.zs_keys.specs.Text.{is_canonical}
use Rattle.zs_events.specs.declared.key_arg.KeyArg.{KeyArg}
use Rattle.zs_events.specs.declared.key_arg.KeyArg.TheVariants.{Text, Number, Declared}
use Rattle.zs_subscriptions.specs.Numbers.{NumberedKey, key_at}
use Rattle.zs_wire.specs.declared.wire_expr.Mapping.{Mapping}
use Rattle.zs_wire.specs.declared.wire_expr.WireExpr.{WireExpr}
use Rattle.zs_events.specs.declared.turn.Refusal.{Refusal}
use Rattle.zs_events.specs.declared.turn.Refusal.TheVariants.{BadKeyExpr}
use Rattle.zs_subscriptions.specs.Contents.{numbers_of}
use Rattle.zs_events.specs.Kinds.{NamedKey, NoKey, OwnKey, PublisherKey, QuerierKey, WireKey, is_nothing}
use Rattle.zs_model.specs.Publishers.{pub_at}
use Rattle.zs_model.specs.Queriers.{querier_at}
use Rattle.zs_world.specs.World.{World, tables_of}

-- the text of a key with a text behind it, if there is a key
abbrev pub text_with_suffix : List ℕ → Option Key → Option (List ℕ)
text_with_suffix suffix key = option_map (λ k. k.text ++ encode_utf8_all suffix) key

-- the text that a key stands for at this moment, as bytes, if it stands for one
abbrev pub key_of : World → KeyArg → Option (List ℕ)
key_of w (Text text) = Some (encode_utf8_all text)
key_of w (Number number suffix) = text_with_suffix suffix (key_at number w.keys.local_resources)
key_of w (Declared text number prefix_len) = Some (encode_utf8_all text)

-- the numbers of the side that a wire expression's mapping names: the network's, or this session's
abbrev pub numbers_for : Mapping → World → List NumberedKey
numbers_for mapping w = numbers_of mapping (tables_of w)

-- the text that a wire expression stands for, if it stands for one: number 0 is no number
abbrev pub wire_of : World → WireExpr → Option (List ℕ)
wire_of w wire =
    if wire.scope == 0 then Some (encode_utf8_all wire.suffix)
    else text_with_suffix wire.suffix (key_at wire.scope (numbers_for wire.mapping w))

-- the text that a named key stands for
abbrev pub text_of : World → NamedKey → Option (List ℕ)
text_of w NoKey = None
text_of w (OwnKey key) = key_of w key
text_of w (PublisherKey id) = option_map (λ row. row.key.text) (pub_at id w.entities.pubs)
text_of w (QuerierKey id) = option_map (λ row. row.key.text) (querier_at id w.entities.queriers)
text_of w (WireKey wire) = wire_of w wire

-- whether a key of this text stands under a number
abbrev pub is_key_of : List ℕ → Option Key → Bool
is_key_of text None = false
is_key_of text (Some key) = bytes_eq key.text text

-- whether the text of a key stands under the number that an event claims, if it claims one
abbrev pub has_claim : World → Option ℕ → Option (List ℕ) → Bool
has_claim w None text = true
has_claim w (Some number) None = false
has_claim w (Some number) (Some text) = is_key_of text (key_at number w.keys.local_resources)

-- a key argument that names a number, with nothing behind it
abbrev pub is_number : KeyArg → Bool
is_number (Text text) = false
is_number (Number number suffix) = is_nothing suffix
is_number (Declared text number prefix_len) = false

-- a key that is a number with nothing behind it
abbrev pub is_number_alone : NamedKey → Bool
is_number_alone NoKey = false
is_number_alone (OwnKey key) = is_number key
is_number_alone (PublisherKey id) = false
is_number_alone (QuerierKey id) = false
is_number_alone (WireKey wire) = not (wire.scope == 0) && is_nothing wire.suffix

-- the key that a text is, or why it is refused: there is no text, or it is not canonical
abbrev pub resolution : Refusal → Option (List ℕ) → Result Key Refusal
resolution missing None = Err missing
resolution missing (Some text) = if is_canonical text then Ok (undeclared text) else Err BadKeyExpr
