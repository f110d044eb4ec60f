-- How verbatim chunks cut two lists of chunks of which one is to include the other.
use Rattle.std.proofs.Common.{◌≡◌, ℕ, Bool, true, false, not, ◌&&◌, List, [], ◌∷◌, refl}
use Rattle.std.specs.Cmp.Lexicographic.{nat_list_eq_equiv}
use Rattle.std.specs.List.{list_any}
use Rattle.zs_keys.specs.Text.{is_double_star}
use Rattle.zs_keys.specs.Matching.{meets, is_free, chunk_includes}
use Rattle.zs_keys.specs.Segments.{front, behind}
use Rattle.zs_keys.proofs.CutLemmas.{verbatim-apart, behind-shorter, cut-apart, cut-ended, cut-left_end, cut-right_end, cut-differ, cut-next}

-- nothing is wild on the right
pub none_wild : {X : Type 0} (xs : List X) → list_any (λ _. false) xs ≡ false
none_wild [] = refl
none_wild (x ∷ xs) = none_wild xs

loose : (c : List ℕ) → false ≡ true → is_free c ≡ true
loose c h = cc

never : (a : Bool) → (a && false) ≡ false
never true = refl
never false = refl

includes-apart : (c d : List ℕ) → is_free c ≡ true → is_free d ≡ false → chunk_includes c d ≡ false
includes-apart c d h k = rw (verbatim-apart c d h k, h, k) (never (not (is_double_star d)))

includes-apart' : (c d : List ℕ) → is_free c ≡ false → is_free d ≡ true → chunk_includes c d ≡ false
includes-apart' c d h k =
    rw (nat_list_eq_equiv.symm c d, verbatim-apart d c k h, h) (never (not (is_double_star d)))

abbrev Include : List (List ℕ) → List (List ℕ) → Bool
Include = meets is_double_star (λ _. false) is_free chunk_includes

abbrev Front : List (List ℕ) → List (List ℕ) → Bool
Front p q = meets is_double_star (λ _. false) (λ _. true) chunk_includes (front is_free p) (front is_free q)

pub include-apart : (p q : List (List ℕ)) → Front p q ≡ false → Include p q ≡ false
include-apart = cut-apart (λ _. false) chunk_includes loose includes-apart includes-apart'

pub include-ended : (p q : List (List ℕ)) → Front p q ≡ true → behind is_free p ≡ [] → behind is_free q ≡ []
    → Include p q ≡ true
include-ended = cut-ended (λ _. false) chunk_includes loose includes-apart includes-apart'

pub include-left_end : (p q : List (List ℕ)) (u : List ℕ) (us : List (List ℕ)) → Front p q ≡ true
    → behind is_free p ≡ [] → behind is_free q ≡ u ∷ us → Include p q ≡ false
include-left_end = cut-left_end (λ _. false) chunk_includes loose includes-apart includes-apart'

pub include-right_end : (p q : List (List ℕ)) (v : List ℕ) (vs : List (List ℕ)) → Front p q ≡ true
    → behind is_free p ≡ v ∷ vs → behind is_free q ≡ [] → Include p q ≡ false
include-right_end = cut-right_end (λ _. false) chunk_includes loose includes-apart includes-apart'

pub include-differ : (p q : List (List ℕ)) (v u : List ℕ) (vs us : List (List ℕ)) → Front p q ≡ true
    → behind is_free p ≡ v ∷ vs → behind is_free q ≡ u ∷ us → chunk_includes v u ≡ false → Include p q ≡ false
include-differ = cut-differ (λ _. false) chunk_includes loose includes-apart includes-apart'

pub include-next : (p q : List (List ℕ)) (v u : List ℕ) (vs us : List (List ℕ)) → Front p q ≡ true
    → behind is_free p ≡ v ∷ vs → behind is_free q ≡ u ∷ us → chunk_includes v u ≡ true → Include p q ≡ Include vs us
include-next = cut-next (λ _. false) chunk_includes loose includes-apart includes-apart'

pub ruleset include_steps = (include-apart, include-ended, include-left_end, include-right_end, include-differ, include-next, behind-shorter)
