-- What each number keeps beside its key: words that no public contract needs.
use Rattle.std.specs.Prelude.{◌≡◌, ◌==◌, ◌<◌, ◌&&◌, ℕ, Bool, true, not, List, [], ◌∷◌, ◌++◌, String, Vec, map, filter, vec_len, vec_capacity, if◌then◌else◌}
use Rattle.std.specs.List.{AllByRecursion, list_any}
use Rattle.std.specs.HashMap.{HashMap}
use Rattle.zs_keys.specs.Key.{Key}
use Rattle.zs_wire.specs.declared.wire_expr.Mapping.{Mapping}
use Rattle.zs_wire.specs.declared.wire_expr.Mapping.TheVariants.{Sender, Receiver}
use Rattle.zs_keys.specs.Matching.{intersects}
use Rattle.zs_subscriptions.specs.declared.subscriber.SubRow.{SubRow}
use Rattle.zs_subscriptions.specs.declared.number_row.NumberRow.{NumberRow}
use Rattle.zs_subscriptions.specs.Ascending.{Ascend}
use Rattle.zs_subscriptions.specs.Numbers.{NumberedKey}
use Rattle.zs_subscriptions.specs.Recipients.{matches, takes}
use Rattle.zs_subscriptions.specs.Texts.{ListsNumbers}

-- a number, its key, and its list of matching subscribers
pub record Listed : Type 0 where
  pub number : ℕ
  pub key : Key
  pub matches : List ℕ

-- a row of numbers without the capacity of its list
abbrev pub shown : NumberRow → Listed
shown row = record { number = row.number; key = row.key; matches = row.matches.items }

-- it without its list
abbrev pub held_of : Listed → NumberedKey
held_of n = record { number = n.number; key = n.key }

-- what contracts see of the rows of numbers
abbrev pub held : List NumberRow → List NumberedKey
held numbers = map held_of (map shown numbers)

-- the list may take the id of a subscriber on that key, if the keys meet
abbrev pub HasRoomFor : List ℕ → NumberRow → Type 0
HasRoomFor text row = intersects row.key.text text ≡ true → vec_len row.matches < vec_capacity row.matches

-- a list that ascends
abbrev pub IsAscending : NumberRow → Type 0
IsAscending row = Ascend (λ id. id) row.matches.items

-- the list with one more subscriber, if the keys meet
abbrev pub noted : ℕ → List ℕ → Listed → Listed
noted id text n = record n { matches = if intersects n.key.text text then n.matches ++ id ∷ [] else n.matches }

-- the list without a subscriber
abbrev pub forgotten : ℕ → Listed → Listed
forgotten id n = record n { matches = filter (λ other. not (other == id)) n.matches }

-- the list of nobody
abbrev pub emptied : Listed → Listed
emptied n = record n { matches = [] }

-- the numbers ascend, and the list of each is that of all rows whose key has a key in common with its own
pub record AreCurrent (rows : List SubRow) (numbers : List Listed) : Type 0 where
  pub ascending : Ascend (λ n. n.number) numbers
  pub current : AllByRecursion (λ n. n.matches ≡ matches n.key.text rows) numbers

-- the rows ascend, and the numbers of both mappings are current
pub record AreInOrder (rows : List SubRow) (own told : List Listed) : Type 0 where
  pub ascending : Ascend (λ row. row.id) rows
  pub own_current : AreCurrent rows own
  pub told_current : AreCurrent rows told

-- rows and numbers are in order, and the index has the numbers of each text
pub record AreKept {A S : Type 0} (rows : List SubRow) (own told : List Listed) (texts : HashMap (String A) (Vec ℕ A) S) : Type 0 where
  pub order : AreInOrder rows own told
  pub indexed : ListsNumbers (map held_of own) texts

-- whether the subscriber of that id takes the publication
abbrev pub takes_by_id : Bool → List SubRow → ℕ → Bool
takes_by_id local rows id = list_any (λ row. row.id == id && takes local row.origin) rows

-- the rows of a mapping
abbrev pub chosen : {X : Type 0} → Mapping → X → X → X
chosen Receiver own told = own
chosen Sender own told = told
