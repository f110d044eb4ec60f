-- Where behind a code no chunk of an asked key can follow.
use Rattle.std.specs.Prelude.{◌≡◌, ℕ, Bool, true, false, List}
use Rattle.std.specs.List.{AllByRecursion}
use Rattle.std.specs.Ordering.{is_gt}
use Rattle.zs_tree.specs.declared.runs.Bound.{Bound}
use Rattle.zs_tree.specs.Code.{is_rough, onto_chunk, code_cmp}
use Rattle.zs_tree.specs.Runs.{within}

-- the chunk is plain, and nothing that begins with it lies within the bound, if it is not before the code
pub record IsOutside (code : List ℕ) (bound : Bound) (chunk : List ℕ) : Type 0 where
  pub plain : is_rough chunk ≡ false
  pub none : (rest : List ℕ) → is_gt (code_cmp code (onto_chunk 2 chunk rest)) ≡ false → within bound (onto_chunk 2 chunk rest) ≡ false

-- all chunks are outside, and the code is inside
pub record IsGap (asked : List (List ℕ)) (code : List ℕ) (bound : Bound) : Type 0 where
  pub outside : AllByRecursion (IsOutside code bound) asked
  pub inside : within bound code ≡ true

-- a bound that keeps one more chunk outside
pub record Narrows (bound : Bound) (code chunk : List ℕ) (next : Bound) : Type 0 where
  pub nearer : (other : List ℕ) → within next other ≡ true → within bound other ≡ true
  pub outside : IsOutside code next chunk
  pub inside : within next code ≡ true
