-- What a search finds in a list and in what a filter leaves of it.
use Rattle.std.proofs.Common.{◌≡◌, ℕ, Bool, true, false, not, List, [], ◌∷◌, ◌++◌, filter, find, drop, zero, suc, None, refl}
use Rattle.std.specs.List.{list_all}
use Rattle.std.proofs.lemmas.Bool.{and_parts, and_from}

-- by the two values of a test
pub split : {P : Type 0} (b : Bool) → (b ≡ true → P) → (b ≡ false → P) → P
split true f g = f refl
split false f g = g refl

module _ {X : Type 0} where
  -- what passes a test, passes it still in a part of the list
  pub list_all-filter : (p q : X → Bool) (xs : List X) → list_all p xs ≡ true → list_all p (filter q xs) ≡ true
  list_all-filter p q [] h = refl
  list_all-filter p q (x ∷ xs) h =
      let (here, rest) = and_parts (p x) (list_all p xs) h in
      split (q x) (λ e. rw e (and_from _ _ here (list_all-filter p q xs rest))) (λ e. rw e (list_all-filter p q xs rest))

  pub list_all-drop : (p : X → Bool) (n : ℕ) (xs : List X) → list_all p xs ≡ true → list_all p (drop n xs) ≡ true
  list_all-drop p zero xs h = h
  list_all-drop p (suc n) [] h = refl
  list_all-drop p (suc n) (x ∷ xs) h = let (here, rest) = and_parts (p x) (list_all p xs) h in list_all-drop p n xs rest

  -- what a filter leaves passes its test
  pub filter-passes : (q : X → Bool) (xs : List X) → list_all q (filter q xs) ≡ true
  filter-passes q [] = refl
  filter-passes q (x ∷ xs) = split (q x) (λ e. rw e (and_from _ _ e (filter-passes q xs))) (λ e. rw e (filter-passes q xs))

  pub find-none : (t : X → Bool) (xs : List X) → list_all (λ x. not (t x)) xs ≡ true → find t xs ≡ None
  find-none t [] h = refl
  find-none t (x ∷ xs) h =
      let (here, rest) = and_parts (not (t x)) (list_all (λ y. not (t y)) xs) h in
      split (t x) (λ e. cc (rw e at here)) (λ e. rw e (find-none t xs rest))

  -- a filter that lets pass what is looked for
  pub find-filter : (t q : X → Bool) → ((x : X) → t x ≡ true → q x ≡ true) → (xs : List X) → find t (filter q xs) ≡ find t xs
  find-filter t q lets [] = refl
  find-filter t q lets (x ∷ xs) =
      split (t x) (λ e. rw (lets x e, e) refl) (λ e.
      split (q x) (λ f. rw (f, e) (find-filter t q lets xs)) (λ f. rw (f, e) (find-filter t q lets xs)))

  -- where the first list has none
  pub find-behind : (t : X → Bool) (xs ys : List X) → find t xs ≡ None → find t (xs ++ ys) ≡ find t ys
  find-behind t [] ys h = refl
  find-behind t (x ∷ xs) ys h = split (t x) (λ e. cc (rw e at h)) (λ e. rw e (find-behind t xs ys (rw e at h)))

  -- where the second list has none
  pub find-before : (t : X → Bool) (xs ys : List X) → find t ys ≡ None → find t (xs ++ ys) ≡ find t xs
  find-before t [] ys h = h
  find-before t (x ∷ xs) ys h = split (t x) (λ e. rw e refl) (λ e. rw e (find-before t xs ys h))
