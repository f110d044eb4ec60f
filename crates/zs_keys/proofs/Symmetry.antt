-- Matching is the same from both sides.
use Rattle.std.specs.Prelude.{◌≡◌, ℕ, Bool, true, false, ◌||◌, ◌==◌, List, [], ◌∷◌, refl}
use Rattle.std.proofs.Common.{sym, ◌∙◌}
use Rattle.std.specs.Cmp.{nat_eq_equiv}
use Rattle.std.specs.Cmp.Lexicographic.{nat_list_eq_equiv}
use Rattle.zs_keys.specs.Text.{is_star, is_verbatim}
use Rattle.zs_keys.specs.Matching.{meets, units, is_any, chunk_meets}
use Rattle.zs_keys.specs.Rules.{meets-wild-end, meets-wild, meets-end-wild, meets-wild_right, meets-left_end, meets-right_end, meets-pair}

case : {P : Type 0} (b : Bool) → (b ≡ true → P) → (b ≡ false → P) → P
case true f g = f refl
case false f g = g refl

or-comm : (a b : Bool) → (a || b) ≡ (b || a)
or-comm true true = refl
or-comm true false = refl
or-comm false true = refl
or-comm false false = refl

module _ {X : Type 0} (wild free : X → Bool) (same : X → X → Bool) (even : (x y : X) → same x y ≡ same y x)
    (loose : (x : X) → wild x ≡ true → free x ≡ true) where
  M : List X → List X → Bool
  M = meets wild wild free same

  pub meets_comm : (p q : List X) → meets wild wild free same p q ≡ meets wild wild free same q p
  meets_comm [] [] = refl
  meets_comm [] (y ∷ ys) = case (wild y)
      (λ h. meets-end-wild wild wild free same y ys h ∙ meets_comm [] ys ∙ sym (meets-wild-end wild wild free same y ys h))
      (λ h. meets-left_end wild wild free same y ys h ∙ sym (meets-right_end wild wild free same y ys h))
  meets_comm (x ∷ xs) [] = case (wild x)
      (λ h. meets-wild-end wild wild free same x xs h ∙ meets_comm xs [] ∙ sym (meets-end-wild wild wild free same x xs h))
      (λ h. meets-right_end wild wild free same x xs h ∙ sym (meets-left_end wild wild free same x xs h))
  meets_comm (x ∷ xs) (y ∷ ys) =
      let drop = meets_comm xs (y ∷ ys) in
      let turn = meets_comm (x ∷ xs) ys in
      let both = meets_comm xs ys in
      case (wild x)
      (λ h. case (wild y)
      (λ k.
      rw (meets-wild wild wild free same x y xs ys h, meets-wild wild wild free same y x ys xs k, loose x h, loose y k, drop, turn)
      (or-comm (meets wild wild free same (y ∷ ys) xs) (meets wild wild free same ys (x ∷ xs))))
      (λ k.
      rw (meets-wild wild wild free same x y xs ys h, meets-wild_right wild wild free same y x ys xs k h, drop, turn) refl))
      (λ h. case (wild y)
      (λ k.
      rw (meets-wild_right wild wild free same x y xs ys h k, meets-wild wild wild free same y x ys xs k, drop, turn) refl)
      (λ k.
      rw (meets-pair wild wild free same x y xs ys h k, meets-pair wild wild free same y x ys xs k h, even x y, both) refl))

-- two units are equal or not, from either side
pub same_unit_comm : (a b : ℕ) → (a == b) ≡ (b == a)
same_unit_comm a b = nat_eq_equiv.symm a b

-- two chunks have a chunk in common, or not, from either side
pub chunk_meets_comm : (a b : List ℕ) → chunk_meets a b ≡ chunk_meets b a
chunk_meets_comm a b =
    rw (
      or-comm (is_verbatim a) (is_verbatim b),
      or-comm (is_star a) (is_star b),
      nat_list_eq_equiv.symm a b,
      meets_comm is_any (λ _. true) (λ c d. c == d) same_unit_comm (λ _ _. refl) (units a) (units b),
    ) refl
