-- What two lists that begin in each way match by. These equations are `meets` read rule by rule; proofs cite them.
use Rattle.std.specs.Prelude.{◌≡◌, Bool, true, false, ◌&&◌, ◌||◌, List, [], ◌∷◌, refl}
use Rattle.zs_keys.specs.Matching.{meets}

module _ {X : Type 0} (wild wild' free : X → Bool) (same : X → X → Bool) where
  -- both are empty
  pub meets-ends : meets wild wild' free same [] [] ≡ true
  unfolding meets
  meets-ends = refl

  -- the left begins with a wild element, and nothing stands against it: it is dropped
  pub meets-wild-end : (x : X) (xs : List X) → wild x ≡ true
      → meets wild wild' free same (x ∷ xs) [] ≡ meets wild wild' free same xs []
  unfolding meets
  meets-wild-end x xs h = rw h refl

  -- the left begins with a wild element: it is dropped, or the right loses its first, if that is free
  pub meets-wild : (x y : X) (xs ys : List X) → wild x ≡ true
      → meets wild wild' free same (x ∷ xs) (y ∷ ys)
      ≡ (meets wild wild' free same xs (y ∷ ys) || (free y && meets wild wild' free same (x ∷ xs) ys))
  unfolding meets
  meets-wild x y xs ys h = rw h refl

  -- the same for a wild element on the right
  pub meets-end-wild : (y : X) (ys : List X) → wild' y ≡ true
      → meets wild wild' free same [] (y ∷ ys) ≡ meets wild wild' free same [] ys
  unfolding meets
  meets-end-wild y ys h = rw h refl

  pub meets-wild_right : (x y : X) (xs ys : List X) → wild x ≡ false → wild' y ≡ true
      → meets wild wild' free same (x ∷ xs) (y ∷ ys)
      ≡ (meets wild wild' free same (x ∷ xs) ys || (free x && meets wild wild' free same xs (y ∷ ys)))
  unfolding meets
  meets-wild_right x y xs ys h k = rw (h, k) refl

  -- one is empty, and the other begins with no wild element
  pub meets-left_end : (y : X) (ys : List X) → wild' y ≡ false → meets wild wild' free same [] (y ∷ ys) ≡ false
  unfolding meets
  meets-left_end y ys h = rw h refl

  pub meets-right_end : (x : X) (xs : List X) → wild x ≡ false → meets wild wild' free same (x ∷ xs) [] ≡ false
  unfolding meets
  meets-right_end x xs h = rw h refl

  -- else the first elements pair and the rests match
  pub meets-pair : (x y : X) (xs ys : List X) → wild x ≡ false → wild' y ≡ false
      → meets wild wild' free same (x ∷ xs) (y ∷ ys) ≡ (same x y && meets wild wild' free same xs ys)
  unfolding meets
  meets-pair x y xs ys h k = rw (h, k) refl
