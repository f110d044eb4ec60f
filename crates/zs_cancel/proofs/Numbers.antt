-- Lists of handlers in ascending number.
use Rattle.std.proofs.Common.{◌≡◌, ℕ, ◌+◌, ◌≤◌, Bool, true, false, List, [], ◌∷◌, ◌++◌, length, refl, arith}
use Rattle.std.specs.Prelude.{◌==◌, nat_lt, not, if◌then◌else◌}
use Rattle.std.specs.List.{list_any}
use Rattle.std.proofs.lemmas.Bool.Decides.{nat_tests}
use Rattle.zs_cancel.specs.declared.entry.Entry.{Entry}
use Rattle.zs_cancel.specs.Tokens.{Ascends, without}

module _ {J : Type 0} where
  -- a handler of the next number
  pub ascends_push : (low : ℕ) (es : List (Entry J)) (high : ℕ) (e : Entry J) → Ascends low es high → e.number ≡ high → Ascends low (es ++ e ∷ []) (high + 1)
  ascends_push low [] high e up is = (omega arith, omega arith)
  ascends_push low (x ∷ xs) high e up is = (up.0, ascends_push (x.number + 1) xs high e up.1 is)

  -- from a lower bound
  pub ascends_from : (lower low : ℕ) (es : List (Entry J)) (high : ℕ) → lower ≤ low → Ascends low es high → Ascends lower es high
  ascends_from lower low [] high le up = omega arith
  ascends_from lower low (x ∷ xs) high le up = (omega (arith, up.0), up.1)

  -- without a number
  pub ascends_without : (n low : ℕ) (es : List (Entry J)) (high : ℕ) → Ascends low es high → Ascends low (without n es) high
  ascends_without n low [] high up = up
  ascends_without n low (x ∷ xs) high up = by_test (x.number == n) (ascends_without n (x.number + 1) xs high up.1)
    where
      by_test : (b : Bool) → Ascends (x.number + 1) (without n xs) high → Ascends low (if not b then x ∷ without n xs else without n xs) high
      by_test true rest = ascends_from low (x.number + 1) (without n xs) high (omega (arith, up.0)) rest
      by_test false rest = (up.0, rest)

  length_without_le : (n : ℕ) (es : List (Entry J)) → length (without n es) ≤ length es
  length_without_le n [] = omega arith
  length_without_le n (x ∷ xs) = grind (arith, nat_tests, length_without_le n xs)

  -- the list without a number is shorter where the number was there
  pub without_fewer : (n : ℕ) (es : List (Entry J)) → nat_lt (length (without n es)) (length es) ≡ list_any (λ e. e.number == n) es
  without_fewer n [] = refl
  without_fewer n (x ∷ xs) = grind (arith, nat_tests, length_without_le n xs, without_fewer n xs)
