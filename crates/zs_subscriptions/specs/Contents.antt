-- What contracts see of the tables.
use Rattle.std.specs.Prelude.{ℕ, List, Option, Some}
use Rattle.std.specs.Option.{option_map}
use Rattle.zs_wire.specs.declared.wire_expr.Mapping.{Mapping}
use Rattle.zs_wire.specs.declared.wire_expr.Mapping.TheVariants.{Sender, Receiver}
use Rattle.zs_subscriptions.specs.declared.subscriber.SubRow.{SubRow}
use Rattle.zs_subscriptions.specs.declared.key_ref.KeyRef.{KeyRef}
use Rattle.zs_subscriptions.specs.declared.key_ref.KeyRef.TheVariants.{Number, Text}
use Rattle.zs_subscriptions.specs.Numbers.{NumberedKey, key_at}

-- the live subscribers by id, the numbers that this session declared, and those that the other side declared
pub record Contents : Type 0 where
  pub rows : List SubRow
  pub own : List NumberedKey
  pub told : List NumberedKey

-- the numbers of a mapping
abbrev pub numbers_of : Mapping → Contents → List NumberedKey
numbers_of Receiver tables = tables.own
numbers_of Sender tables = tables.told

-- the tables with other numbers of a mapping
abbrev pub with_numbers : Mapping → List NumberedKey → Contents → Contents
with_numbers Receiver numbers tables = record tables { own = numbers }
with_numbers Sender numbers tables = record tables { told = numbers }

-- the text that a reference to a key means, if its number stands for a key
abbrev pub text_meant : KeyRef → Contents → Option (List ℕ)
text_meant (Number mapping number) tables = option_map (λ key. key.text) (key_at number (numbers_of mapping tables))
text_meant (Text key) tables = Some key.now.text

-- a reference by number
abbrev pub IsByNumber : KeyRef → Type 0
IsByNumber (Number mapping number) = Unit {0}
IsByNumber (Text key) = ⊥
