-- The steps of a walk along two lists, and of the search that begins again at each place.
use Rattle.std.proofs.Common.{◌≡◌, Bool, true, false, List, [], ◌∷◌, refl, sym, ◌∙◌, arith}
use Rattle.std.specs.List.{list_any}
use Rattle.zs_keys.specs.Matching.{meets, some_rest}
use Rattle.zs_keys.specs.Rules.{meets-ends, meets-left_end, meets-right_end, meets-pair}
use Rattle.zs_keys.specs.Walk.{Onto}
use Rattle.zs_keys.proofs.Bools.{or_left}
use Rattle.zs_keys.proofs.Behind.{behind-wild, behind-step, behind-found, behind-missed, behind-here}

module _ {X : Type 0} (wild wild' : X → Bool) (same : X → X → Bool) (p q : List X) where
  abbrev M : List X → List X → Bool
  M = meets wild wild' (λ _. true) same

  abbrev S : List X → List X → Bool
  S a b = some_rest (λ _. true) (M a) b

  -- the walk goes on behind two elements that pair
  pub onto-next : (p1 q1 : List X) (x y : X) (xs ys : List X) → Onto wild wild' same p q p1 q1 → p1 ≡ x ∷ xs
      → q1 ≡ y ∷ ys → wild x ≡ false → wild' y ≡ false → same x y ≡ true → Onto wild wild' same p q xs ys
  onto-next p1 q1 x y xs ys o h k w w' s =
      let here : Onto wild wild' same p q (x ∷ xs) (y ∷ ys) = rw (h, k) at o in
      record {
        answer = here.answer ∙ meets-pair wild wild' (λ _. true) same x y xs ys w w' ∙ rw s refl;
        later = λ n t. behind-step wild wild' same x xs y ys w (sym here.wilds ∙ n) (here.later n t);
        wilds = here.wilds ∙ rw w' refl;
        left = omega (arith, here.left);
        right = omega (arith, here.right);
      }

  pub onto-ends : (p1 q1 : List X) → Onto wild wild' same p q p1 q1 → p1 ≡ [] → q1 ≡ [] → M p q ≡ true
  onto-ends p1 q1 o h k = o.answer ∙ rw (h, k) (meets-ends wild wild' (λ _. true) same)

  pub onto-left_end : (p1 q1 : List X) (y : X) (ys : List X) → Onto wild wild' same p q p1 q1 → p1 ≡ [] → q1 ≡ y ∷ ys
      → wild' y ≡ false → M p q ≡ false
  onto-left_end p1 q1 y ys o h k w = o.answer ∙ rw (h, k) (meets-left_end wild wild' (λ _. true) same y ys w)

  pub onto-right_end : (p1 q1 : List X) (x : X) (xs : List X) → Onto wild wild' same p q p1 q1 → p1 ≡ x ∷ xs → q1 ≡ []
      → wild x ≡ false → M p q ≡ false
  onto-right_end p1 q1 x xs o h k w = o.answer ∙ rw (h, k) (meets-right_end wild wild' (λ _. true) same x xs w)

  pub onto-differ : (p1 q1 : List X) (x y : X) (xs ys : List X) → Onto wild wild' same p q p1 q1 → p1 ≡ x ∷ xs
      → q1 ≡ y ∷ ys → wild x ≡ false → wild' y ≡ false → same x y ≡ false → M p q ≡ false
  onto-differ p1 q1 x y xs ys o h k w w' s =
      o.answer ∙ rw (h, k, meets-pair wild wild' (λ _. true) same x y xs ys w w', s) refl

  -- the walk stands before a wild element of the left list, or of the right one
  pub onto-left : (p1 q1 : List X) (x : X) (xs : List X) → Onto wild wild' same p q p1 q1 → p1 ≡ x ∷ xs
      → Onto wild wild' same p q (x ∷ xs) q1
  onto-left p1 q1 x xs o h = rw h at o

  pub onto-right : (p1 q1 : List X) (y : X) (ys : List X) → Onto wild wild' same p q p1 q1 → q1 ≡ y ∷ ys
      → Onto wild wild' same p q p1 (y ∷ ys)
  onto-right p1 q1 y ys o h = rw h at o

  -- a walk that stands before a wild element of the left list
  pub walk-left : (p1 q1 : List X) (x : X) → wild x ≡ true → Onto wild wild' same p q (x ∷ p1) q1 → M p q ≡ S p1 q1
  walk-left p1 q1 x w o = o.answer ∙ behind-wild wild wild' same x p1 q1 w

  -- a piece that fits is behind
  pub search-found : (p1 q1 : List X) (x : X) → wild x ≡ true → Onto wild wild' same p q (x ∷ p1) q1
      → list_any wild' q ≡ false → S p q ≡ S p1 q1
  search-found p1 q1 x w o n = behind-found wild wild' same p q p1 q1 x w o.answer (o.later n)

  -- a piece that misses is tried one place later
  pub search-missed : (y : X) (ys : List X) → M p q ≡ false → q ≡ y ∷ ys → S p q ≡ S p ys
  search-missed y ys h k = rw k (behind-missed wild wild' same p y ys (rw k at h))

  pub search-over : M p q ≡ false → q ≡ [] → S p q ≡ false
  search-over h k = rw k (rw k at h)

  pub search-ended : M p q ≡ true → S p q ≡ true
  search-ended h = behind-here wild wild' same p q h

  -- a list without wild elements has none in front
  pub search-none : (p1 q1 : List X) (y : X) → wild' y ≡ true → Onto wild wild' same p q p1 (y ∷ q1)
      → list_any wild' q ≡ false → ⊥
  search-none p1 q1 y w o n =
      let found = or_left (wild' y) (list_any wild' q1) w in
      let none = sym o.wilds ∙ n in
      cc

pub ruleset walk_steps = (onto-ends, onto-left_end, onto-right_end, onto-differ, onto-left, onto-right)

pub ruleset search_steps = (search-found, search-missed, search-over, search-ended, search-none)
