-- What a lock that knows its value keeps, and what its steps tell.
use Rattle.std.specs.Prelude.{◌≡◌, ◌≢◌, ℕ, List, [], ◌∷◌, length, slice_index, Option, Some, None}
use mathlib.Core.Option.{Option as Home, some}
use lib.ListN.{get_elem?}
use Rattle.atomic_table.specs.Seated.{TableId}
use Rattle.atomic_table.specs.Table.{State, Me, Step}

-- a lock: which one it is, and the key that its value goes by
pub record LockSeen (K : Type 0) : Type 0 where
  pub lock : TableId
  pub key : K

module _ {T K : Type 0} (holds : K → T → Type 0) where
  -- the value lies in the lock's one slot, and the fact holds of it
  abbrev pub IsHome : K → List (Home (Option T)) → Type 0
  IsHome key homes = (value : T) × (get_elem? homes 0 ≡ some (some (Some value))) × holds key value

  -- while the one word is 0, the value is home
  abbrev pub IsLocked : K → State (Option T) K → Type 0
  IsLocked key s = (length s.words ≡ 1) × (length s.homes ≡ 1) × (slice_index s.words 0 ≡ 0 → IsHome key s.homes)

  -- the seat has taken a value of which the fact holds
  abbrev pub HasTaken : Me (Option T) K → Type 0
  HasTaken me = (value : T) × (me.1 ≡ (0, Some value) ∷ []) × holds me.0 value

  -- a step that takes the value where the word was 0
  abbrev pub TakesValue : Step (Option T) → Me (Option T) K → ℕ → Me (Option T) K → Type 0
  TakesValue step me found after = (after.0 ≡ me.0) × (found ≡ 0 → HasTaken after) × (found ≢ 0 → after ≡ me)

-- a seat whose value was read out of it
abbrev pub IsOut : {T K : Type 0} → Me (Option T) K → Type 0
IsOut me = me.1 ≡ (0, None) ∷ []

-- a new seat knows the key, as the first seat does
abbrev pub Sits : {T K : Type 0} → Step (Option T) → Me (Option T) K → ℕ → Me (Option T) K → Type 0
Sits step me found after = after ≡ me

-- a step that puts the value back
abbrev pub PutsValue : {T K : Type 0} → Step (Option T) → Me (Option T) K → ℕ → Me (Option T) K → Type 0
PutsValue step me found after = after.1 ≡ []
