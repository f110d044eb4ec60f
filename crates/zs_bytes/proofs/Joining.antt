-- Slices joined end to end.
use Rattle.std.proofs.Common.{◌≡◌, ℕ, ◌+◌, ◌<◌, List, [], ◌∷◌, ◌++◌, length, take, refl, ap, ◌∙◌, append_assoc, get_or}
use Rattle.std.specs.List.{concat}
use Rattle.std.proofs.lemmas.List.{append-nil, take_more}

pub concat-append : (xss yss : List (List ℕ)) → concat (xss ++ yss) ≡ concat xss ++ concat yss
concat-append [] yss = refl
concat-append (xs ∷ xss) yss = rw append_assoc (ap (λ (t : List ℕ). xs ++ t) (concat-append xss yss))

-- one slice more behind the others
pub concat-push : (xss : List (List ℕ)) (xs : List ℕ) → concat (xss ++ xs ∷ []) ≡ concat xss ++ xs
concat-push xss xs = concat-append xss (xs ∷ []) ∙ ap (λ (t : List ℕ). concat xss ++ t) (append-nil xs)

-- the bytes of one slice more of a list
pub concat-take_more : (xss : List (List ℕ)) (i : ℕ) → i < length xss → concat (take (i + 1) xss) ≡ concat (take i xss) ++ get_or xss i []
concat-take_more xss i within = ap concat (take_more xss i [] within) ∙ concat-push (take i xss) (get_or xss i [])

pub ruleset joining = (concat-take_more, concat-push, concat-append)
