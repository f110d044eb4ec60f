-- The blocks in which a tree keeps its entries, and what a look-up has of them before it.
use Rattle.std.specs.Prelude.{◌≡◌, ℕ, zero, suc, ◌+◌, ◌<◌, Bool, true, false, not, List, [], ◌∷◌, ◌++◌, length, Result, Ok, Err}
use Rattle.std.specs.List.{AllByRecursion, AllWithin, HoldsAt, insert, remove}
use Rattle.std.specs.Ordering.{is_gt}
use Rattle.zs_tree.specs.declared.entry.Entry.{Entry}
use Rattle.zs_tree.specs.declared.left.Left.{Left}
use Rattle.zs_tree.specs.declared.runs.Bound.{Bound}
use Rattle.zs_tree.specs.Entries.{IsUpTo, AreInOrder, IsPlaceOf, entry_cmp}
use Rattle.zs_tree.specs.Runs.{lies}

-- the entries of all blocks, one block behind another
abbrev pub flat : List (List Entry) → List Entry
flat [] = []
flat (b ∷ bs) = b ++ flat bs

-- no block is empty
abbrev pub AreFilled : List (List Entry) → Type 0
AreFilled bs = AllByRecursion (λ b. 0 < length b) bs

-- the entries that a look-up has before it
abbrev pub left_of : Left → List Entry
left_of l = l.block.now ++ flat l.later.now

-- whether the first entry of a block lies there
abbrev pub begins_within : List ℕ → Bound → List Entry → Bool
begins_within path bound [] = false
begins_within path bound (e ∷ es) = lies path bound e.code.items

-- whether the first entry of a block does not stand behind a code and a number
abbrev pub begins_up_to : List ℕ → ℕ → List Entry → Bool
begins_up_to code id [] = false
begins_up_to code id (e ∷ es) = not (is_gt (entry_cmp code id e))

-- what is left of some entries without a run that lies there
pub record LeavesOut (path : List ℕ) (bound : Bound) (all rest : List Entry) : Type 0 where
  pub run : List Entry
  pub parts : all ≡ run ++ rest
  pub there : AllByRecursion (λ e. lies path bound e.code.items ≡ true) run

-- entries in order behind one that lies there
pub record LieBehind (path : List ℕ) (bound : Bound) (entries : List Entry) : Type 0 where
  pub first : Entry
  pub there : lies path bound first.code.items ≡ true
  pub behind : AllByRecursion (IsUpTo first) entries
  pub order : AreInOrder entries

-- all entries that are left, in a block that begins with the first of them
pub record EntersAt (first : Entry) (all : List Entry) (left : Left) : Type 0 where
  pub same : left_of left ≡ all
  pub rest : List Entry
  pub begins : left.block.now ≡ first ∷ rest
  pub filled : AreFilled left.later.now

-- the block at that place is the last that begins up to a code and a number, or the first block of all
pub record IsBlockOf (code : List ℕ) (id at : ℕ) (blocks : List (List Entry)) : Type 0 where
  pub up : 0 < at → HoldsAt (λ b. begins_up_to code id b ≡ true) blocks at
  pub over : AllWithin (λ b. begins_up_to code id b ≡ false) blocks (at + 1) (length blocks)

-- an entry was put in at its place
pub record IsPutIn (entry : Entry) (old new : List Entry) : Type 0 where
  pub at : ℕ
  pub place : IsPlaceOf entry.code.items entry.id old (Err at)
  pub is : new ≡ insert old at entry

-- the place of a code and a number in the block at a place
abbrev pub IsIn : List ℕ → ℕ → ℕ → List (List Entry) → Result ℕ ℕ → Type 0
IsIn code id at blocks place = HoldsAt (λ b. IsPlaceOf code id b place) blocks at

-- the entry of a code and a number was taken out, or there was none
abbrev pub IsTakenOut : List ℕ → ℕ → List Entry → List Entry → Bool → Type 0
IsTakenOut code id old new true = (at : ℕ) × IsPlaceOf code id old (Ok at) × (new ≡ remove old at)
IsTakenOut code id old new false = (at : ℕ) × IsPlaceOf code id old (Err at) × (new ≡ old)

-- the entries of the blocks before a place
abbrev pub front : ℕ → List (List Entry) → List Entry
front zero bs = []
front (suc at) [] = []
front (suc at) (b ∷ bs) = b ++ front at bs

-- a place behind some entries, counted from the first of them
abbrev pub far : List Entry → ℕ → ℕ
far [] n = n
far (x ∷ xs) n = suc (far xs n)

-- the entries without the one at a place of a block
abbrev pub IsWithout : ℕ → ℕ → List (List Entry) → List Entry → Type 0
IsWithout at place blocks new = new ≡ remove (flat blocks) (far (front at blocks) place)
