-- The index of numbers by text: words that no public contract needs.
use Rattle.std.specs.Prelude.{◌≡◌, ℕ, ◌==◌, not, List, [], ◌∷◌, Option, Some, None, String, Vec, map, filter, bytes_eq, if◌then◌else◌}
use Rattle.std.specs.Option.{option_map_or}
use Rattle.std.specs.HashMap.{HashMap, get_by_text}
use Rattle.zs_subscriptions.specs.Ascending.{placed_by}
use Rattle.zs_subscriptions.specs.Numbers.{NumberedKey}

-- the first element
abbrev pub first : {X : Type 0} → List X → Option X
first [] = None
first (x ∷ xs) = Some x

-- the numbers that stand for a text
abbrev pub numbers_with : List ℕ → List NumberedKey → List ℕ
numbers_with text rows = map (λ row. row.number) (filter (λ row. bytes_eq row.key.text text) rows)

-- the numbers that the index has under a text
abbrev pub listed : {A S : Type 0} → List ℕ → HashMap (String A) (Vec ℕ A) S → List ℕ
listed text texts = option_map_or (λ numbers. numbers.items) (get_by_text texts text) []

module _ {A S : Type 0} where
  -- the numbers under each text are those that stand for it
  pub record ListsNumbers (rows : List NumberedKey) (texts : HashMap (String A) (Vec ℕ A) S) : Type 0 where
    pub each : (text : List ℕ) → listed text texts ≡ numbers_with text rows

  -- nothing has changed
  pub record SameLists (old new : HashMap (String A) (Vec ℕ A) S) : Type 0 where
    pub each : (text : List ℕ) → listed text new ≡ listed text old

  -- a number has come under a text
  pub record Joins (text : List ℕ) (number : ℕ) (old new : HashMap (String A) (Vec ℕ A) S) : Type 0 where
    pub each : (other : List ℕ) → listed other new ≡ (if bytes_eq text other then placed_by (λ n. n) number (listed other old) else listed other old)

  -- a number is gone from under a text
  pub record Leaves (text : List ℕ) (number : ℕ) (old new : HashMap (String A) (Vec ℕ A) S) : Type 0 where
    pub each : (other : List ℕ) → listed other new ≡ (if bytes_eq text other then filter (λ n. not (n == number)) (listed other old) else listed other old)

  -- a number is under the new text, and not under the old one if the two differ
  pub record Moves (before after : List ℕ) (number : ℕ) (old new : HashMap (String A) (Vec ℕ A) S) : Type 0 where
    pub each : (other : List ℕ) → listed other new ≡
        (if bytes_eq after other then placed_by (λ n. n) number (listed other old)
        else if bytes_eq before other then filter (λ n. not (n == number)) (listed other old) else listed other old)
