-- What fields come to that are printed one behind the other.
use Rattle.std.proofs.Common.{ℕ, ◌≡◌, List, [], ◌∷◌, ◌++◌, refl, sym, ap, ◌∙◌, append_assoc}
use Rattle.std.proofs.lemmas.List.{append-nil}
use Rattle.zs_printing.specs.Pieces.{tabs}

-- a field in front of others
pub tabs-front : (field : List ℕ) (more : List (List ℕ)) → tabs (field ∷ more) ≡ 9 ∷ (field ++ tabs more)
tabs-front field [] = ap (λ (text : List ℕ). 9 ∷ text) (sym (append-nil field))
tabs-front field (next ∷ more) = refl

-- fields behind others
pub tabs-append : (first more : List (List ℕ)) → tabs (first ++ more) ≡ tabs first ++ tabs more
tabs-append [] more = refl
tabs-append (field ∷ first) more =
    tabs-front field (first ++ more)
    ∙ ap (λ (text : List ℕ). 9 ∷ (field ++ text)) (tabs-append first more)
    ∙ ap (λ (text : List ℕ). 9 ∷ text) (sym (append_assoc field (tabs first) (tabs more)))
    ∙ ap (λ (text : List ℕ). text ++ tabs more) (sym (tabs-front field first))

pub ruleset joining = (append_assoc, append-nil, tabs-front, tabs-append)
