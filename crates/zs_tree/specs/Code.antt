-- A text as bytes whose order brings those texts together that begin with the same chunks: a mark before each chunk, and
-- a `/` behind it.
use Rattle.std.specs.Prelude.{◌≡◌, ℕ, Bool, false, List, [], ◌∷◌, ◌++◌, ◌==◌, ◌||◌, if◌then◌else◌}
use Rattle.std.specs.Cmp.Lexicographic.{slice_cmp}
use Rattle.std.specs.Ordering.{nat_cmp}
use Rattle.std.specs.declared.cmp.Ordering.{Ordering}
use Rattle.std.specs.declared.cmp.Ordering.TheVariants.{Less, Greater}
use Rattle.std.specs.List.{list_any}
use Rattle.zs_keys.specs.Text.{chunks}
use Rattle.zs_tree.specs.declared.code.Beside.{Beside}
use Rattle.zs_tree.specs.declared.code.Beside.TheVariants.{Before, Within, Behind}

-- a chunk with a wild sign in it
abbrev pub is_rough : List ℕ → Bool
is_rough chunk = list_any (λ byte. byte == 0x2a || byte == 0x24) chunk

-- the mark of a chunk: those with a wild sign come first
abbrev pub mark_of : List ℕ → ℕ
mark_of chunk = if is_rough chunk then 1 else 2

-- a chunk behind its mark, and what follows it
abbrev pub onto_chunk : ℕ → List ℕ → List ℕ → List ℕ
onto_chunk mark chunk rest = mark ∷ (chunk ++ (0x2f ∷ rest))

-- the code of some chunks
abbrev pub coded : List (List ℕ) → List ℕ
coded [] = []
coded (c ∷ cs) = onto_chunk (mark_of c) c (coded cs)

-- the code of a text
abbrev pub code_of : List ℕ → List ℕ
code_of text = coded (chunks text)

-- codes in order
abbrev pub code_cmp : List ℕ → List ℕ → Ordering
code_cmp left right = slice_cmp nat_cmp left right

-- a code stands before all of some codes that share a front, or behind them, or it is one of them
abbrev pub IsBy : (List ℕ → List ℕ) → List ℕ → Beside → Type 0
IsBy onto code Before = (rest : List ℕ) → code_cmp code (onto rest) ≡ Less
IsBy onto code (Within rest) = code ≡ onto rest.now
IsBy onto code Behind = (rest : List ℕ) → code_cmp code (onto rest) ≡ Greater

-- no byte is a `/`
abbrev pub IsCut : List ℕ → Type 0
IsCut chunk = list_any (λ byte. byte == 0x2f) chunk ≡ false
