-- The search in lists that read the same on both sides.
use Rattle.std.proofs.Common.{◌≡◌, Bool, true, false, ◌||◌, List, [], ◌∷◌, refl, ◌∙◌}
use Rattle.std.specs.List.{list_any}
use Rattle.zs_keys.specs.Matching.{meets, some_rest}
use Rattle.zs_keys.proofs.Symmetry.{meets_comm}
use Rattle.zs_keys.specs.Walk.{last_piece, Onto}
use Rattle.zs_keys.proofs.Bools.{split, or_left}
use Rattle.zs_keys.proofs.Behind.{behind-wild}
use Rattle.zs_keys.proofs.Pieces.{behind-ends}

-- the last piece has no wild element
piece_plain : {X : Type 0} (wild : X → Bool) (p : List X) → list_any wild (last_piece wild p) ≡ false
piece_plain wild [] = refl
piece_plain wild (x ∷ xs) = split (list_any wild xs)
    (λ a. rw a (piece_plain wild xs))
    (λ a. split (wild x) (λ w. rw (a, w) a) (λ w. rw (a, w) (rw (w, a) refl)))

module _ {X : Type 0} (wild wild' : X → Bool) (same : X → X → Bool) (one : wild' ≡ wild)
    (even : (x y : X) → same x y ≡ same y x) where
  abbrev M : List X → List X → Bool
  M = meets wild wild' (λ _. true) same

  abbrev S : List X → List X → Bool
  S p q = some_rest (λ _. true) (M p) q

  pub last-plain : (p a : List X) → a ≡ last_piece wild p → list_any wild' a ≡ false
  last-plain p a h = rw (h, one) (piece_plain wild p)

  anywhere : (p q : List X) → list_any wild' q ≡ true
      → S p q ≡ (S (last_piece wild p) (last_piece wild q) || S (last_piece wild q) (last_piece wild p))
  anywhere p q h = rw one (behind-ends wild same even p q (rw one at h))

  -- the last piece of the left list stands at the end of that of the right one
  pub anywhere-first : (p q a b : List X) → list_any wild' q ≡ true → a ≡ last_piece wild p → b ≡ last_piece wild q
      → S a b ≡ true → S p q ≡ true
  anywhere-first p q a b h k l s =
      anywhere p q h ∙ or_left (S (last_piece wild p) (last_piece wild q)) (S (last_piece wild q) (last_piece wild p)) (rw (← k, ← l) s)

  -- or it does not, and all depends on the other way round
  pub anywhere-second : (p q a b : List X) → list_any wild' q ≡ true → a ≡ last_piece wild p → b ≡ last_piece wild q
      → S a b ≡ false → S p q ≡ S b a
  anywhere-second p q a b h k l s = anywhere p q h ∙ rw (← k, ← l, s) refl

  -- a walk that stands before a wild element of the right list
  pub match-right : (p q p1 q1 : List X) (y : X) → wild' y ≡ true → Onto wild wild' same p q p1 (y ∷ q1) → M p q ≡ S q1 p1
  match-right p q p1 q1 y w o =
      o.answer
      ∙ rw one (meets_comm wild (λ _. true) same even (λ _ _. refl) p1 (y ∷ q1))
      ∙ behind-wild wild wild' same y q1 p1 (rw one at w)
