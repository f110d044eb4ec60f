use Rattle.std.proofs.Common.{◌≡◌, List, [], ◌∷◌, ◌++◌, Bool, true, false, refl, ◌∙◌, ap, append_assoc}
use Rattle.std.specs.Prelude.{ℕ, ◌&&◌, map}
use Rattle.std.specs.List.{list_all, AllByRecursion, flat_map}
use Rattle.zs_lines.specs.Lines.{lines}
use Rattle.zs_printing.specs.Printing.{line}
use Rattle.zs_script.specs.Plain.{is_plain}
use Rattle.zs_script.proofs.PlainTexts.{lines-found}
use Rattle.zs_session.specs.Telling.{plain_line}

-- the fields of a list are plain
abbrev pub ArePlain : List (List ℕ) → Type 0
ArePlain parts = list_all is_plain parts ≡ true

pub both : (a b : Bool) → (a && b) ≡ true → (a ≡ true) × (b ≡ true)
both true true h = (refl, refl)
both true false h = cc
both false b h = cc

-- printed lines are the first lines of what begins with them
pub lines_all : (n : ℕ) (blocks : List (List (List ℕ))) (rest : List ℕ) → AllByRecursion ArePlain blocks
    → lines (flat_map (line n) blocks ++ rest) ≡ map (plain_line n) blocks ++ lines rest
lines_all n [] rest all = refl
lines_all n (parts ∷ blocks) rest all =
    ap lines (append_assoc (line n parts) (flat_map (line n) blocks) rest)
    ∙ lines-found n parts (flat_map (line n) blocks ++ rest) all.0
    ∙ ap (λ more. plain_line n parts ∷ more) (lines_all n blocks rest all.1)
