-- What callers count together that put one after another in a list.
use Rattle.std.proofs.Common.{◌≡◌, ◌∙◌, ℕ, ◌+◌, ◌*◌, List, [], ◌∷◌, ◌++◌, All, length, arith, subst}
use Rattle.std.proofs.Math.Numerals.{add-one}
use Rattle.std.proofs.Math.Nat.{suc-mul}
use Rattle.std.proofs.Math.Seq.{get_or-append_seam}
use Rattle.std.proofs.lemmas.List.{get_or_append_left, length-append}

-- what holds of each element holds of those before the last
pub all_front : {X : Type 0} (P : X → Type 0) (front : List X) (last : X) → All P (front ++ last ∷ []) → All P front
all_front P front last all = λ k d less.
    let whole = length-append front (last ∷ []) in
    subst P (get_or_append_left front (last ∷ []) d k less) (all k d (omega arith))

-- and of the last
pub all_last : {X : Type 0} (P : X → Type 0) (front : List X) (last : X) → All P (front ++ last ∷ []) → P last
all_last P front last all =
    let whole = length-append front (last ∷ []) in
    subst P (get_or-append_seam front last [] last) (all (length front) last (omega arith))

-- one more puts as often
pub one_more : (callers puts : ℕ) → (callers + 1) * puts ≡ callers * puts + puts
one_more callers puts = rw (add-one callers) (suc-mul callers puts)
