-- A list with a wild element before it, against another: the first fit is as good as any, and where the other has a
-- wild element too, only the last pieces matter.
use Rattle.std.proofs.Common.{◌≡◌, Bool, true, false, List, [], ◌∷◌, refl, sym, ◌∙◌}
use Rattle.std.specs.List.{list_any}
use Rattle.zs_keys.specs.Matching.{meets, some_rest}
use Rattle.zs_keys.specs.Rules.{meets-wild-end, meets-wild, meets-right_end, meets-pair}
use Rattle.zs_keys.proofs.Bools.{or_cases, or_left, or_right, or_twice, and_second, both_ways, or_none_left, or_none_right}

module _ {X : Type 0} (wild wild' : X → Bool) (same : X → X → Bool) where
  abbrev M : List X → List X → Bool
  M = meets wild wild' (λ _. true) same

  abbrev S : List X → List X → Bool
  S p q = some_rest (λ _. true) (M p) q

  -- a wild element is what stands before
  pub behind-wild : (x : X) (p q : List X) → wild x ≡ true → M (x ∷ p) q ≡ S p q
  unfolding meets
  behind-wild x p q h = rw h refl

  pub behind-later : (p : List X) (y : X) (ys : List X) → S p ys ≡ true → S p (y ∷ ys) ≡ true
  behind-later p y ys h = or_right (M p (y ∷ ys)) (S p ys) h

  pub behind-here : (p q : List X) → M p q ≡ true → S p q ≡ true
  behind-here p [] h = h
  behind-here p (y ∷ ys) h = or_left (M p (y ∷ ys)) (S p ys) h

  -- two elements that pair are behind a match of their rests
  pair-rests : (x : X) (xs : List X) (y : X) (ys : List X) → wild x ≡ false → wild' y ≡ false
      → M (x ∷ xs) (y ∷ ys) ≡ true → M xs ys ≡ true
  pair-rests x xs y ys h k m =
      and_second (same x y) (M xs ys) (sym (meets-pair wild wild' (λ _. true) same x y xs ys h k) ∙ m)

  -- what fits somewhere fits there without its first element too
  behind-rest : (x : X) (xs zs : List X) → wild x ≡ false → list_any wild' zs ≡ false
      → S (x ∷ xs) zs ≡ true → S xs zs ≡ true
  behind-rest x xs [] h n s = let none = meets-right_end wild wild' (λ _. true) same x xs h in cc
  behind-rest x xs (z ∷ zs) h n s = behind-later xs z zs (or_cases (M (x ∷ xs) (z ∷ zs)) (S (x ∷ xs) zs) s
      (λ m. behind-here xs zs (pair-rests x xs z zs h (or_none_left (wild' z) (list_any wild' zs) n) m))
      (behind-rest x xs zs h (or_none_right (wild' z) (list_any wild' zs) n)))

  -- one step on, whatever fitted later still fits later
  pub behind-step : (x : X) (xs : List X) (y : X) (ys : List X) → wild x ≡ false → list_any wild' (y ∷ ys) ≡ false
      → S (x ∷ xs) (y ∷ ys) ≡ true → S xs ys ≡ true
  behind-step x xs y ys h n s = or_cases (M (x ∷ xs) (y ∷ ys)) (S (x ∷ xs) ys) s
      (λ m. behind-here xs ys (pair-rests x xs y ys h (or_none_left (wild' y) (list_any wild' ys) n) m))
      (behind-rest x xs ys h (or_none_right (wild' y) (list_any wild' ys) n))

  -- a wild element twice is one
  pub behind-run : (x : X) (p q : List X) → wild x ≡ true → S (x ∷ p) q ≡ S p q
  behind-run x p [] h = meets-wild-end wild wild' (λ _. true) same x p h
  behind-run x p (y ∷ ys) h =
      rw (meets-wild wild wild' (λ _. true) same x y p ys h, behind-wild x p ys h, behind-run x p ys h)
      (or_twice (M p (y ∷ ys)) (S p ys))

  -- where the first piece fits, the search goes on behind it
  pub behind-found : (p q p1 q1 : List X) (x : X) → wild x ≡ true → M p q ≡ M (x ∷ p1) q1
      → (S p q ≡ true → S (x ∷ p1) q1 ≡ true) → S p q ≡ S p1 q1
  behind-found p q p1 q1 x h answer later = both_ways (S p q) (S p1 q1)
      (λ s. sym (behind-run x p1 q1 h) ∙ later s)
      (λ s. behind-here p q (answer ∙ behind-wild x p1 q1 h ∙ s))

  -- where it does not fit here, it fits later or not at all
  pub behind-missed : (p : List X) (y : X) (ys : List X) → M p (y ∷ ys) ≡ false → S p (y ∷ ys) ≡ S p ys
  behind-missed p y ys h = rw h refl
