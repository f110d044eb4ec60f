-- Elements that are not free cut both lists: what stands before the first of them matches apart from the rest.
use Rattle.std.proofs.Common.{◌≡◌, Bool, true, false, ◌&&◌, ◌||◌, List, [], ◌∷◌, refl}
use Rattle.zs_keys.specs.Matching.{meets}
use Rattle.zs_keys.specs.Rules.{meets-ends, meets-wild-end, meets-wild, meets-end-wild, meets-wild_right, meets-left_end, meets-right_end, meets-pair}
use Rattle.zs_keys.specs.Segments.{front, behind}
use Rattle.zs_keys.proofs.Bools.{split}

or_and : (a b r : Bool) → ((a && r) || (b && r)) ≡ ((a || b) && r)
or_and true true true = refl
or_and true true false = refl
or_and true false true = refl
or_and true false false = refl
or_and false b r = refl

and_assoc : (a b c : Bool) → (a && (b && c)) ≡ ((a && b) && c)
and_assoc true b c = refl
and_assoc false b c = refl

or_end : (a : Bool) → (a || false) ≡ a
or_end true = refl
or_end false = refl

module _ {X : Type 0} (wild wild' free : X → Bool) (same : X → X → Bool)
    (loose : (x : X) → wild x ≡ true → free x ≡ true)
    (loose' : (x : X) → wild' x ≡ true → free x ≡ true)
    (apart : (x y : X) → free x ≡ true → free y ≡ false → same x y ≡ false)
    (apart' : (x y : X) → free x ≡ false → free y ≡ true → same x y ≡ false) where
  abbrev M : List X → List X → Bool
  M = meets wild wild' free same

  abbrev F : List X → List X → Bool
  F = meets wild wild' (λ _. true) same

  abbrev f : List X → List X
  f p = front free p

  abbrev r : List X → List X
  r p = behind free p

  tight : (x : X) → free x ≡ false → wild x ≡ false
  tight x h = split (wild x) (λ w. let e = loose x w in cc) (λ w. w)

  tight' : (x : X) → free x ≡ false → wild' x ≡ false
  tight' x h = split (wild' x) (λ w. let e = loose' x w in cc) (λ w. w)

  ends : F [] [] ≡ true
  ends = meets-ends wild wild' (λ _. true) same

  pub cut : (p q : List X) → M p q ≡ (F (f p) (f q) && M (r p) (r q))
  cut [] [] = rw (ends, meets-ends wild wild' free same) refl
  cut [] (y ∷ ys) = split (free y)
      (λ e. rw e (split (wild' y)
      (λ w. rw (meets-end-wild wild wild' free same y ys w, meets-end-wild wild wild' (λ _. true) same y (f ys) w) (cut [] ys))
      (λ w. rw (meets-left_end wild wild' free same y ys w, meets-left_end wild wild' (λ _. true) same y (f ys) w) refl)))
      (λ e. rw (e, ends) refl)
  cut (x ∷ xs) [] = split (free x)
      (λ e. rw e (split (wild x)
      (λ w. rw (meets-wild-end wild wild' free same x xs w, meets-wild-end wild wild' (λ _. true) same x (f xs) w) (cut xs []))
      (λ w. rw (meets-right_end wild wild' free same x xs w, meets-right_end wild wild' (λ _. true) same x (f xs) w) refl)))
      (λ e. rw (e, ends) refl)
  cut (x ∷ xs) (y ∷ ys) =
      let drop = cut xs (y ∷ ys) in
      let turn = cut (x ∷ xs) ys in
      let both = cut xs ys in
      split (free x)
      (λ e. split (free y)
      (λ k. split (wild x)
      (λ w.
      let a : M xs (y ∷ ys) ≡ (F (f xs) (y ∷ f ys) && M (r xs) (r ys)) = rw k at drop in
      let b : M (x ∷ xs) ys ≡ (F (x ∷ f xs) (f ys) && M (r xs) (r ys)) = rw e at turn in
      rw (meets-wild wild wild' free same x y xs ys w, e, k, a, b, meets-wild wild wild' (λ _. true) same x y (f xs) (f ys) w)
      (or_and (F (f xs) (y ∷ f ys)) (F (x ∷ f xs) (f ys)) (M (r xs) (r ys))))
      (λ w. split (wild' y)
      (λ v.
      let a : M xs (y ∷ ys) ≡ (F (f xs) (y ∷ f ys) && M (r xs) (r ys)) = rw k at drop in
      let b : M (x ∷ xs) ys ≡ (F (x ∷ f xs) (f ys) && M (r xs) (r ys)) = rw e at turn in
      rw (
        meets-wild_right wild wild' free same x y xs ys w v,
        e,
        k,
        a,
        b,
        meets-wild_right wild wild' (λ _. true) same x y (f xs) (f ys) w v,
      )
      (or_and (F (x ∷ f xs) (f ys)) (F (f xs) (y ∷ f ys)) (M (r xs) (r ys))))
      (λ v.
      rw (meets-pair wild wild' free same x y xs ys w v, e, k, both, meets-pair wild wild' (λ _. true) same x y (f xs) (f ys) w v)
      (and_assoc (same x y) (F (f xs) (f ys)) (M (r xs) (r ys))))))
      (λ k. split (wild x)
      (λ w.
      let a : M xs (y ∷ ys) ≡ (F (f xs) [] && M (r xs) (y ∷ ys)) = rw k at drop in
      rw (meets-wild wild wild' free same x y xs ys w, e, k, a, meets-wild-end wild wild' (λ _. true) same x (f xs) w)
      (or_end (F (f xs) [] && M (r xs) (y ∷ ys))))
      (λ w.
      rw (
        meets-pair wild wild' free same x y xs ys w (tight' y k),
        e,
        k,
        apart x y e k,
        meets-right_end wild wild' (λ _. true) same x (f xs) w,
      ) refl)))
      (λ e. split (free y)
      (λ k. split (wild' y)
      (λ w.
      let b : M (x ∷ xs) ys ≡ (F [] (f ys) && M (x ∷ xs) (r ys)) = rw e at turn in
      rw (meets-wild_right wild wild' free same x y xs ys (tight x e) w, e, k, b, meets-end-wild wild wild' (λ _. true) same y (f ys) w)
      (or_end (F [] (f ys) && M (x ∷ xs) (r ys))))
      (λ w.
      rw (
        meets-pair wild wild' free same x y xs ys (tight x e) w,
        e,
        k,
        apart' x y e k,
        meets-left_end wild wild' (λ _. true) same y (f ys) w,
      ) refl))
      (λ k. rw (e, k, ends) refl))
