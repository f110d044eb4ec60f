-- What a walk along an asked key and a stored one tells of the stored key, and of those behind it.
use Rattle.std.specs.Prelude.{◌≡◌, ◌++◌, ◌<◌, ℕ, Bool, true, false, List, [], ◌∷◌, length, string_bytes}
use Rattle.std.specs.List.{AllByRecursion}
use Rattle.std.specs.Ordering.{is_gt}
use Rattle.zs_keys.specs.Matching.{meets, is_free, chunk_meets}
use Rattle.zs_keys.specs.Text.{chunks, is_double_star}
use Rattle.zs_tree.specs.declared.entry.Entry.{Entry}
use Rattle.zs_tree.specs.declared.runs.Bound.{Bound}
use Rattle.zs_tree.specs.declared.walk.Answer.{Answer}
use Rattle.zs_tree.specs.declared.walk.Answer.TheVariants.{Meets, Skips}
use Rattle.zs_tree.specs.declared.walk.Place.{Place}
use Rattle.zs_tree.specs.declared.walk.Turn.{Turn}
use Rattle.zs_tree.specs.declared.walk.Turn.TheVariants.{On, Done}
use Rattle.zs_tree.specs.declared.chunks.Chunks.{Chunks}
use Rattle.zs_tree.specs.Chunks.{chunks_left}
use Rattle.zs_tree.specs.Code.{IsCut, is_rough, coded, code_cmp}
use Rattle.zs_tree.specs.Runs.{lies}

-- two lists of chunks have a key in common
abbrev pub chunks_meet : List (List ℕ) → List (List ℕ) → Bool
chunks_meet left right = meets is_double_star is_double_star is_free chunk_meets left right

-- no chunk has a `/` in it
abbrev pub AreCut : List (List ℕ) → Type 0
AreCut cs = AllByRecursion IsCut cs

-- chunks without a wild sign
abbrev pub ArePlain : List (List ℕ) → Type 0
ArePlain cs = AllByRecursion (λ chunk. is_rough chunk ≡ false) cs

-- nothing that is not before the stored code, begins with the path and lies within the bound meets the asked chunks; the
-- stored code lies there
pub record AreMissed (asked : List (List ℕ)) (code path : List ℕ) (bound : Bound) : Type 0 where
  pub here : lies path bound code ≡ true
  pub none : (cs : List (List ℕ)) → AreCut cs → is_gt (code_cmp code (coded cs)) ≡ false → lies path bound (coded cs) ≡ true → chunks_meet asked cs ≡ false

-- the stored key meets the asked one, or it and some behind it do not
abbrev pub Tells : List ℕ → Entry → Answer → Type 0
Tells asked stored Meets = chunks_meet (chunks asked) (chunks (string_bytes stored.text)) ≡ true
Tells asked stored (Skips path bound) = AreMissed (chunks asked) stored.code.items path.now bound

-- what is left of both keys where all before met in step: behind the front, which may have wild chunks, plain chunks
-- were equal
pub record Led (asked stored left right : List (List ℕ)) (code firm : List ℕ) : Type 0 where
  pub front : List (List ℕ)
  pub back : List (List ℕ)
  pub stored_is : stored ≡ front ++ (back ++ right)
  pub answer : (rest : List (List ℕ)) → chunks_meet asked (front ++ rest) ≡ chunks_meet (back ++ left) rest
  pub plain : ArePlain back
  pub cut : AreCut left
  pub code_is : code ≡ coded right
  pub firm_is : firm ≡ coded (back ++ right)

-- the same of a place in the walk
abbrev pub IsLed : List ℕ → Entry → Place → Type 0
IsLed asked stored at = Led (chunks asked) (chunks (string_bytes stored.text)) (chunks_left at.left) (chunks_left at.right) at.code.now at.firm.now

-- the chunks that are left begin with this one
abbrev pub IsNext : List ℕ → Chunks → Type 0
IsNext chunk left = (rest : List (List ℕ)) × (chunks_left left ≡ chunk ∷ rest)

-- a turn goes on behind the next chunks, or it is the last one
abbrev pub Goes : List ℕ → Entry → Place → Turn → Type 0
Goes asked stored at (On next) = IsLed asked stored next × (length (chunks_left next.right) < length (chunks_left at.right))
Goes asked stored at (Done answer) = Tells asked stored answer
