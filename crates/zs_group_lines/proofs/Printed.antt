-- The lines of a view, one name more.
use Rattle.std.proofs.Common.{◌≡◌, ℕ, List, [], ◌∷◌, ◌++◌, map, refl, sym, ap, ◌∙◌, append_assoc, Bor}
use Rattle.std.specs.Prelude.{String}
use Rattle.std.specs.Map.Iter.{deref_pair}
use mathlib.Core.List.{append-nil}
use Rattle.zs_members.specs.Members.{member_of}
use Rattle.zs_group_lines.specs.Shown.{member_text, view_text}

pub one_member : {A : Type 0} (number : ℕ) (side : List ℕ) (xs : List (Bor (String A) × Bor ℕ)) (x : Bor (String A) × Bor ℕ)
    → view_text number side (map member_of (map deref_pair (xs ++ x ∷ []))) ≡ view_text number side (map member_of (map deref_pair xs)) ++ member_text number side (member_of (deref_pair x))
one_member number side [] x = append-nil (member_text number side (member_of (deref_pair x)))
one_member number side (y ∷ xs) x =
    ap (λ (text : List ℕ). member_text number side (member_of (deref_pair y)) ++ text) (one_member number side xs x)
    ∙ sym (append_assoc (member_text number side (member_of (deref_pair y))) (view_text number side (map member_of (map deref_pair xs))) (member_text number side (member_of (deref_pair x))))
