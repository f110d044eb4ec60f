-- How pairs are joined to a text: each with a `;` behind it, but for the last.
use Rattle.std.proofs.Common.{◌≡◌, ℕ, ◌-◌, true, false, not, List, [], ◌∷◌, ◌++◌, length, take, filter, refl, ap, ◌∙◌, append_assoc, bytes_eq, length-append, get_or, arith}
use Rattle.std.specs.List.{flat_map}
use Rattle.std.proofs.Math.Seq.{take-append_seam, get_or-append_seam}
use Rattle.std.specs.String.Boundary.{IsSplitPoint}
use Rattle.std.proofs.lemmas.List.{append-nil}
use Rattle.zs_wire.specs.Parameters.{piece_of, joined_text, has_name, other_pairs, text_with}

-- a pair with a `;` behind it
abbrev pub ended : List ℕ × List ℕ → List ℕ
ended pair = piece_of pair ++ (0x3b ∷ [])

-- the pairs with other names
abbrev pub others : List ℕ → List (List ℕ × List ℕ) → List (List ℕ × List ℕ)
others name list = filter (λ pair. not (has_name name pair)) list

-- pairs with a `;` behind each, and one more
pub joined-push : (list : List (List ℕ × List ℕ)) (pair : List ℕ × List ℕ) → flat_map ended list ++ piece_of pair ≡ joined_text (list ++ pair ∷ [])
joined-push [] pair = refl
joined-push (x ∷ []) pair = simp append_assoc
joined-push (x ∷ y ∷ list) pair = simp append_assoc (ap (λ text. piece_of x ++ (0x3b ∷ text)) (simp append_assoc at (joined-push (y ∷ list) pair)))

-- the last `;` is one too many
pub joined-ended : (x : List ℕ × List ℕ) (list : List (List ℕ × List ℕ)) → flat_map ended (x ∷ list) ≡ joined_text (x ∷ list) ++ (0x3b ∷ [])
joined-ended x [] = simp append-nil
joined-ended x (y ∷ list) = rw (joined-ended y list) (simp append_assoc)

pub joined-nothing : (list : List (List ℕ × List ℕ)) (made : List ℕ) → made ≡ flat_map ended list → length made ≡ 0 → made ≡ joined_text list
joined-nothing [] made is none = is
joined-nothing (x ∷ list) made is none = absurd (omega (arith, length-append (joined_text (x ∷ list)) (0x3b ∷ []), none, ap length (is ∙ joined-ended x list)))

ended_cut : (text made : List ℕ) → made ≡ text ++ (0x3b ∷ []) → take (length made - 1) made ≡ text
ended_cut text made is =
    let one_less : length (text ++ (0x3b ∷ [])) - 1 ≡ length text = omega (arith, length-append text (0x3b ∷ [])) in
    rw (is, one_less) (take-append_seam text (0x3b ∷ []))

pub joined-cut : (list : List (List ℕ × List ℕ)) (made : List ℕ) → made ≡ flat_map ended list → (length made ≡ 0 → ⊥)
    → take (length made - 1) made ≡ joined_text list
joined-cut [] made is some = absurd (some (ap length is))
joined-cut (x ∷ list) made is some = ended_cut (joined_text (x ∷ list)) made (is ∙ joined-ended x list)

ended_sign : (text made : List ℕ) → made ≡ text ++ (0x3b ∷ []) → get_or made (length made - 1) 0 ≡ 0x3b
ended_sign text made is =
    let one_less : length (text ++ (0x3b ∷ [])) - 1 ≡ length text = omega (arith, length-append text (0x3b ∷ [])) in
    rw (is, one_less) (get_or-append_seam text 0x3b [] 0)

last_sign : (list : List (List ℕ × List ℕ)) (made : List ℕ) → made ≡ flat_map ended list → (length made ≡ 0 → ⊥)
    → get_or made (length made - 1) 0 ≡ 0x3b
last_sign [] made is some = absurd (some (ap length is))
last_sign (x ∷ list) made is some = ended_sign (joined_text (x ∷ list)) made (is ∙ joined-ended x list)

-- a text may be cut before its last `;`
pub joined-boundary : (list : List (List ℕ × List ℕ)) (made : List ℕ) → made ≡ flat_map ended list → (length made ≡ 0 → ⊥)
    → IsSplitPoint made (length made - 1)
joined-boundary list made is some = (omega arith, λ _ _ large. omega (arith, last_sign list made is some, large))

-- the pairs with other names, and then one with this name
pub joined-with : (name value text made more : List ℕ) → made ≡ flat_map ended (other_pairs name text) → more ≡ made ++ piece_of (name, value)
    → more ≡ text_with name value text
joined-with name value text made more is last = last ∙ rw is (joined-push (other_pairs name text) (name, value))

-- one pair more: it is left out where it has the name
pub other_skip : (name made all : List ℕ) (left rest : List (List ℕ × List ℕ)) (n v : List ℕ) → made ++ flat_map ended (others name left) ≡ all
    → left ≡ (n, v) ∷ rest → bytes_eq n name ≡ true → made ++ flat_map ended (others name rest) ≡ all
other_skip name made all left rest n v so_far first same = rw (first, same) at so_far

pub other_keep : (name made made' made'' all : List ℕ) (left rest : List (List ℕ × List ℕ)) (n v : List ℕ) → made ++ flat_map ended (others name left) ≡ all
    → left ≡ (n, v) ∷ rest → bytes_eq n name ≡ false → made' ≡ made ++ piece_of (n, v) → made'' ≡ made' ++ (0x3b ∷ [])
    → made'' ++ flat_map ended (others name rest) ≡ all
other_keep name made made' made'' all left rest n v so_far first differs more ends =
    rw (ends, more) (simp append_assoc (simp append_assoc at (rw (first, differs) at so_far)))

pub ruleset keeping = (other_skip, other_keep)

pub ruleset joining = (joined-with, joined-nothing, joined-cut, joined-boundary)
