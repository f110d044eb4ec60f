-- A key expression that includes another one has a key in common with it.
use Rattle.std.proofs.Common.{◌≡◌, ℕ, Bool, true, false, not, ◌&&◌, ◌||◌, ◌==◌, List, [], ◌∷◌, refl, sym, ◌∙◌, arith}
use Rattle.std.specs.Prelude.{bytes_eq}
use Rattle.std.specs.Cmp.Lexicographic.{bytes_decides}
use Rattle.std.proofs.lemmas.Bool.Decides.{nat_tests}
use Rattle.zs_keys.specs.Text.{chunks, is_star, is_double_star, is_verbatim}
use Rattle.zs_keys.specs.Matching.{meets, units, is_any, units_meet, units_include, is_free, chunk_meets, chunk_includes, includes, intersects}
use Rattle.zs_keys.specs.Rules.{meets-ends, meets-wild-end, meets-wild, meets-left_end, meets-right_end, meets-pair}
use Rattle.zs_keys.proofs.EqualLemmas.{chunk-itself}
use Rattle.zs_keys.proofs.Bools.{split, or_cases, or_left, or_right, and_second, and_first, both, not_true}

module _ {X : Type 0} (wild wild' free : X → Bool) (fits same : X → X → Bool)
    (plain : (x y : X) → wild x ≡ false → fits x y ≡ true → wild' y ≡ false)
    (pairs : (x y : X) → wild x ≡ false → fits x y ≡ true → same x y ≡ true) where
  abbrev I : List X → List X → Bool
  I = meets wild (λ _. false) free fits

  abbrev M : List X → List X → Bool
  M = meets wild wild' free same

  weaker : (p q : List X) → I p q ≡ true → M p q ≡ true
  weaker [] [] h = meets-ends wild wild' free same
  weaker [] (y ∷ ys) h = let no = meets-left_end wild (λ _. false) free fits y ys refl in cc
  weaker (x ∷ xs) [] h = split (wild x)
      (λ w. meets-wild-end wild wild' free same x xs w
      ∙ weaker xs [] (sym (meets-wild-end wild (λ _. false) free fits x xs w) ∙ h))
      (λ w. let no = meets-right_end wild (λ _. false) free fits x xs w in cc)
  weaker (x ∷ xs) (y ∷ ys) h =
      let drop = weaker xs (y ∷ ys) in
      let turn = weaker (x ∷ xs) ys in
      let next = weaker xs ys in
      split (wild x)
      (λ w. meets-wild wild wild' free same x y xs ys w
      ∙ or_cases (I xs (y ∷ ys)) (free y && I (x ∷ xs) ys) (sym (meets-wild wild (λ _. false) free fits x y xs ys w) ∙ h)
      (λ a. or_left (M xs (y ∷ ys)) (free y && M (x ∷ xs) ys) (drop a))
      (λ b. or_right (M xs (y ∷ ys)) (free y && M (x ∷ xs) ys)
      (both (free y) (M (x ∷ xs) ys) (and_first (free y) (I (x ∷ xs) ys) b)
      (turn (and_second (free y) (I (x ∷ xs) ys) b)))))
      (λ w.
      let pair = sym (meets-pair wild (λ _. false) free fits x y xs ys w refl) ∙ h in
      let fit = and_first (fits x y) (I xs ys) pair in
      meets-pair wild wild' free same x y xs ys w (plain x y w fit)
      ∙ both (same x y) (M xs ys) (pairs x y w fit) (next (and_second (fits x y) (I xs ys) pair)))

-- equal units that are not `$*`
same-plain : (a b : ℕ) → is_any a ≡ false → (a == b) ≡ true → is_any b ≡ false
same-plain a b h k = let same : b ≡ a = grind (arith, nat_tests) in rw same h

units-weaker : (a b : List ℕ) → units_include a b ≡ true → units_meet a b ≡ true
units-weaker = weaker is_any is_any (λ _. true) (λ a b. a == b) (λ a b. a == b) same-plain (λ a b h k. k)

abbrev wide : List ℕ → List ℕ → Bool
wide c d = is_star c || (not (is_star d) && units_include (units c) (units d))

free-meets : (c d : List ℕ) → is_free c ≡ true → is_free d ≡ true → wide c d ≡ true → chunk_meets c d ≡ true
free-meets c d f g h =
    rw (not_true (is_verbatim c) f, not_true (is_verbatim d) g)
    (or_cases (is_star c) (not (is_star d) && units_include (units c) (units d)) h
    (λ s. or_left (is_star c || is_star d) (units_meet (units c) (units d)) (or_left (is_star c) (is_star d) s))
    (λ s. or_right (is_star c || is_star d) (units_meet (units c) (units d))
    (units-weaker (units c) (units d) (and_second (not (is_star d)) (units_include (units c) (units d)) s))))

chunk-plain : (c d : List ℕ) → is_double_star c ≡ false → chunk_includes c d ≡ true → is_double_star d ≡ false
chunk-plain c d w h =
    not_true (is_double_star d) (and_first (not (is_double_star d)) (bytes_eq c d || (is_free c && is_free d && wide c d)) h)

chunk-weaker : (c d : List ℕ) → is_double_star c ≡ false → chunk_includes c d ≡ true → chunk_meets c d ≡ true
chunk-weaker c d w h =
    or_cases (bytes_eq c d) (is_free c && is_free d && wide c d)
    (and_second (not (is_double_star d)) (bytes_eq c d || (is_free c && is_free d && wide c d)) h)
    (λ e. let same : c ≡ d = (bytes_decides c d).0 e in rw same (chunk-itself d))
    (λ k.
    let frees = and_first (is_free c && is_free d) (wide c d) k in
    free-meets c d (and_first (is_free c) (is_free d) frees) (and_second (is_free c) (is_free d) frees)
    (and_second (is_free c && is_free d) (wide c d) k))

pub includes-meets : (left right : List ℕ) → includes left right ≡ true → intersects left right ≡ true
includes-meets left right =
    weaker is_double_star is_double_star is_free chunk_includes chunk_meets chunk-plain chunk-weaker (chunks left) (chunks right)
