-- What two writes come to.
use Rattle.std.proofs.Common.{ℕ, ◌≡◌, List, ◌++◌, Option, Some, None, subst, ap, ◌∙◌, append_assoc, sym, take, drop}
use Rattle.std.proofs.lemmas.List.{take-append-drop}
use Rattle.zs_keys.specs.Stream.{PutsOn}

-- one piece and then another is both at once
pub both-pieces : (old mid new : Option (List ℕ)) (front piece : List ℕ) → PutsOn old front mid → PutsOn mid piece new
    → PutsOn old (front ++ piece) new
both-pieces None mid new front piece first second = tt
both-pieces (Some taken) mid new front piece first second =
    let P : Option (List ℕ) → Type 0 = λ m. PutsOn m piece new in
    let then : new ≡ Some ((taken ++ front) ++ piece) = subst P first second in
    then ∙ ap Some (append_assoc taken front piece)

-- what was put on, and what is left
pub cut-again : (piece front rest after : List ℕ) (count : ℕ) → piece ≡ front ++ rest → after ≡ drop count rest
    → piece ≡ (front ++ take count rest) ++ after
cut-again piece front rest after count is left =
    is ∙ ap (λ (r : List ℕ). front ++ r) (sym (take-append-drop count rest))
    ∙ sym (append_assoc front (take count rest) (drop count rest))
    ∙ ap (λ (r : List ℕ). (front ++ take count rest) ++ r) (sym left)
