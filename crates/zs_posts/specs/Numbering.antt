-- The table of a room: its word is the number that is drawn next, and no number has two gates.
use Rattle.std.specs.Prelude.{◌≡◌, ℕ, ◌<◌, [], length, slice_index}
use mathlib.Core.Option.{Option as Home, none, some}
use lib.ListN.{get_elem?}
use Rattle.atomic_table.specs.Seated.{TableId}
use Rattle.atomic_table.specs.Table.{State, Me, Step}
use Rattle.zs_posts.specs.declared.numbering.View.{View}
use Rattle.zs_posts.specs.declared.numbering.View.TheVariants.{Blank, Tag, Both}

-- what a seat knows is so, where numbers are drawn below `next` and have the gates that `gate_of` gives
abbrev pub IsNumbered : (ℕ → TableId) → ℕ → View → Type 0
IsNumbered gate_of next Blank = Unit {0}
IsNumbered gate_of next (Tag number gate) = (number < next) × (gate ≡ gate_of number)
IsNumbered gate_of next (Both number gate other) = (number < next) × (gate ≡ gate_of number) × (other ≡ gate_of number)

-- the rule of the table
pub record Kept (s : State TableId View) : Type 0 where
  pub one_word : length s.words ≡ 1
  pub gate_of : ℕ → TableId
  pub numbered : (id : ℕ) (v : View) → get_elem? s.views id ≡ some v → IsNumbered gate_of (slice_index s.words 0) v

abbrev pub Mine : Type 0
Mine = Me TableId View

abbrev pub Told : Type 1
Told = Step TableId → Mine → ℕ → Mine → Type 0

-- a new seat knows nothing
abbrev pub Sits : Told
Sits step me found after = after.0 ≡ Blank

-- what holds of the gate that a step announces
abbrev pub IfSaid : Home TableId → (TableId → Type 0) → Type 0
IfSaid none P = Unit {0}
IfSaid (some gate) P = P gate

-- a step that draws the number that it expects, for the gate that it announces
abbrev pub Draws : Told
Draws step me found after = (found ≡ step.first → IfSaid step.said (λ gate. after.0 ≡ Tag step.first gate)) × (after.1 ≡ me.1)

-- two tags, of which one has the other's gate beside its own
abbrev pub both : View → View → View
both (Tag number gate) (Tag _ other) = Both number gate other
both v _ = v

-- the two gates are one
abbrev pub AreOne : View → Type 0
AreOne (Both number gate other) = gate ≡ other
AreOne _ = Unit {0}

-- without the other's gate
abbrev pub alone : View → View
alone (Both number gate other) = Tag number gate
alone v = v

-- a look that finds the two gates to be one
abbrev pub Compares : Told
Compares step me found after = AreOne me.0 × (after.0 ≡ alone me.0) × (after.1 ≡ me.1)

-- the gate of a tag
abbrev pub tagged_gate : View → TableId
tagged_gate (Tag number gate) = gate
tagged_gate _ = record { words = 0; slots = 0; views_name = 0; atom = 0; block = 0; offset = 0; slot_names = [] }
