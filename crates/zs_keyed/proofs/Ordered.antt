-- Lists in ascending order, and what is true of each element.
use Rattle.std.proofs.Common.{◌≡◌, ℕ, ◌<◌, Bool, true, false, List, [], ◌∷◌, ◌++◌, refl, arith}
use Rattle.std.specs.Prelude.{◌==◌, nat_lt, map}
use Rattle.std.specs.List.{AllByRecursion}
use Rattle.std.proofs.lemmas.Bool.Decides.{nat_tests}
use Rattle.zs_keyed.specs.Ascending.{Ascend, placed_by}
pub use Rattle.zs_rows.proofs.Ascending.{all_weaker, all_both, all_filter, ascend_rises, ascend_filter}

-- what follows of the images
pub all_map : {X Y : Type 0} (P : X → Type 0) (Q : Y → Type 0) (f : X → Y) → ((x : X) → P x → Q (f x)) → (xs : List X) → AllByRecursion P xs → AllByRecursion Q (map f xs)
all_map P Q f step [] all = tt
all_map P Q f step (x ∷ xs) all = (step x all.0, all_map P Q f step xs all.1)

-- what follows from facts on the images
pub all_unmap : {X Y : Type 0} (P : Y → Type 0) (f : X → Y) (xs : List X) → AllByRecursion P (map f xs) → AllByRecursion (λ x. P (f x)) xs
all_unmap P f [] all = tt
all_unmap P f (x ∷ xs) all = (all.0, all_unmap P f xs all.1)

-- what holds of each element and of one more
pub all_push : {X : Type 0} (P : X → Type 0) (xs : List X) (y : X) → AllByRecursion P xs → P y → AllByRecursion P (xs ++ y ∷ [])
all_push P [] y all one = (one, tt)
all_push P (x ∷ xs) y all one = (all.0, all_push P xs y all.1 one)

-- an image with the same numbers ascends
pub ascend_map : {X Y : Type 0} (number : Y → ℕ) (f : X → Y) (xs : List X) → Ascend (λ x. number (f x)) xs → Ascend number (map f xs)
ascend_map number f [] up = tt
ascend_map number f (x ∷ xs) up = (all_map (λ later. number (f x) < number (f later)) (λ later. number (f x) < number later) f (λ y lt. lt) xs up.0, ascend_map number f xs up.1)

-- what has an ascending image ascends
pub ascend_unmap : {X Y : Type 0} (number : Y → ℕ) (f : X → Y) (xs : List X) → Ascend number (map f xs) → Ascend (λ x. number (f x)) xs
ascend_unmap number f [] up = tt
ascend_unmap number f (x ∷ xs) up = (all_unmap (λ later. number (f x) < number later) f xs up.0, ascend_unmap number f xs up.1)

-- so does one more at the end
pub ascend_push : {X : Type 0} (number : X → ℕ) (xs : List X) (y : X) → Ascend number xs → AllByRecursion (λ x. number x < number y) xs → Ascend number (xs ++ y ∷ [])
ascend_push number [] y up below = (tt, tt)
ascend_push number (x ∷ xs) y up below = (all_push (λ later. number x < number later) xs y up.0 below.0, ascend_push number xs y up.1 below.1)

-- what holds of each element and of the new one holds of each once it is placed
pub all_placed : {X : Type 0} (P : X → Type 0) (number : X → ℕ) (new : X) (xs : List X) → AllByRecursion P xs → P new → AllByRecursion P (placed_by number new xs)
all_placed P number new [] all one = (one, tt)
all_placed P number new (x ∷ xs) all one = go (number x == number new) refl (nat_lt (number new) (number x)) refl (all_placed P number new xs all.1 one)
  where
    go : (same : Bool) → (number x == number new) ≡ same → (below : Bool) → nat_lt (number new) (number x) ≡ below → AllByRecursion P (placed_by number new xs) → AllByRecursion P (placed_by number new (x ∷ xs))
    go true same below is_below rest = rw same (one, all.1)
    go false same true is_below rest = rw (same, is_below) (one, all)
    go false same false is_below rest = rw (same, is_below) (all.0, rest)

-- the order is kept by what is placed
pub ascend_placed : {X : Type 0} (number : X → ℕ) (new : X) (xs : List X) → Ascend number xs → Ascend number (placed_by number new xs)
ascend_placed number new [] up = (tt, tt)
ascend_placed number new (x ∷ xs) up = go (number x == number new) refl (nat_lt (number new) (number x)) refl (ascend_placed number new xs up.1)
  where
    go : (same : Bool) → (number x == number new) ≡ same → (below : Bool) → nat_lt (number new) (number x) ≡ below → Ascend number (placed_by number new xs) → Ascend number (placed_by number new (x ∷ xs))
    go true same below is_below rest = rw same (all_weaker (λ later. number x < number later) (λ later. number new < number later) (λ y lt. grind (arith, nat_tests, same, lt)) xs up.0, up.1)
    go false same true is_below rest =
        let lt : number new < number x = grind (arith, nat_tests, is_below) in
        rw (same, is_below) ((lt, all_weaker (λ later. number x < number later) (λ later. number new < number later) (λ y more. omega (arith, more)) xs up.0), up)
    go false same false is_below rest =
        let lt : number x < number new = grind (arith, nat_tests, is_below, same) in
        rw (same, is_below) (all_placed (λ later. number x < number later) number new xs up.0 lt, rest)
