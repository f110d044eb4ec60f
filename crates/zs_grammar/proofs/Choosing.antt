-- What is chosen by the first field.
use Rattle.std.proofs.Common.{ℕ, ◌≡◌, List, [], ◌∷◌, Option, Some, refl}
use Rattle.zs_parts.specs.Parts.{first_of, behind}
use Rattle.zs_grammar.specs.Grammar.{by_word}

pub by-first : {A : Type 0} (choose : List ℕ → List (List ℕ) → Option A) (fields : List (List ℕ)) (word : List ℕ)
    → first_of fields ≡ Some word → by_word choose fields ≡ choose word (behind fields)
by-first choose [] word h = cc
by-first choose (field ∷ rest) word h = let same : field ≡ word = cc in rw same refl
