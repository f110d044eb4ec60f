-- The bytes of slices.
use Rattle.std.proofs.Common.{◌≡◌, ℕ, Bool, true, List, [], ◌∷◌, ◌++◌, refl, ◌∙◌, ap}
use Rattle.std.specs.Prelude.{◌&&◌, nat_lt}
use Rattle.std.specs.List.{AllByRecursion, list_all}

-- each number is one of a byte
abbrev pub AreSmall : List ℕ → Type 0
AreSmall bytes = AllByRecursion (λ b. nat_lt b 256 ≡ true) bytes

pub both_small : (xs ys : List ℕ) → AreSmall xs → AreSmall ys → AreSmall (xs ++ ys)
both_small [] ys first second = second
both_small (x ∷ xs) ys first second = (first.0, both_small xs ys first.1 second)

pub all_small : (bytes : List ℕ) → AreSmall bytes → list_all (λ b. nat_lt b 256) bytes ≡ true
all_small [] small = refl
all_small (b ∷ bytes) small = ap (λ (first : Bool). first && list_all (λ x. nat_lt x 256) bytes) small.0 ∙ all_small bytes small.1
