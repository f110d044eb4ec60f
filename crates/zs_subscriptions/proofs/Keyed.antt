-- Those that match, looked up in the tree of keys.
use Rattle.std.proofs.Common.{◌≡◌, ◌≢◌, ℕ, zero, suc, ◌<◌, Bool, true, false, List, [], ◌∷◌, ◌++◌, length, get_or, Option, Some, None, refl, sym, ap, ◌∙◌, arith}
use Rattle.std.specs.Prelude.{◌==◌, ◌&&◌, nat_lt, not, map, filter, All, bytes_eq}
use Rattle.std.specs.List.{AllByRecursion, find}
use Rattle.std.specs.Cmp.Lexicographic.{nat_list_eq_equiv}
use Rattle.std.proofs.lemmas.Bool.Decides.{nat_tests}
use Rattle.std.proofs.lemmas.List.Elements.{recursion_from_All, All-from_recursion}
use Rattle.zs_keys.specs.Matching.{intersects}
use Rattle.zs_tree.specs.Rows.{first_above}
use Rattle.zs_subscriptions.specs.declared.subscriber.SubRow.{SubRow}
use Rattle.zs_subscriptions.specs.Ascending.{Ascend}
use Rattle.zs_subscriptions.specs.Recipients.{matches, takes, receives, recipients, is_behind, first_behind, next_recipient}
use Rattle.zs_subscriptions.specs.Lists.{takes_by_id}
use Rattle.zs_subscriptions.proofs.ByKey.{by_test, kept}
use Rattle.zs_subscriptions.proofs.Walking.{ids_next, first_of_numbers}

-- the first above a number is the first behind it
pub above_behind : (after : Option ℕ) (ids : List ℕ) → first_above after ids ≡ first_behind after ids
above_behind None [] = refl
above_behind None (id ∷ ids) = refl
above_behind (Some after) [] = refl
above_behind (Some after) (id ∷ ids) = let ih = above_behind (Some after) ids in by_test (nat_lt after id) (λ k. rw k refl) (λ k. rw k ih)

-- of ascending ids what is left is the next one, and what is left behind it
left_next : (after : Option ℕ) (ids : List ℕ) (id : ℕ) → Ascend (λ n. n) ids → Some id ≡ first_above after ids
    → filter (is_behind after) ids ≡ id ∷ filter (is_behind (Some id)) ids
left_next after ids id up found =
    let next : first_behind after ids ≡ Some id = sym (above_behind after ids) ∙ sym found in
    ids_next after ids up ∙ rw next refl

-- a search by ids: where it began, and where it goes on
pub record Sought (p : ℕ → Bool) (ids : List ℕ) (after last : Option ℕ) : Type 0 where
  pub same : find p (filter (is_behind after) ids) ≡ find p (filter (is_behind last) ids)

pub sought_start : (p : ℕ → Bool) (ids : List ℕ) (after : Option ℕ) → Sought p ids after after
sought_start p ids after = record { same = refl }

pub sought_found : (p : ℕ → Bool) (ids : List ℕ) (after last : Option ℕ) (id : ℕ) → Sought p ids after last → Ascend (λ n. n) ids
    → Some id ≡ first_above last ids → p id ≡ true → Some id ≡ find p (filter (is_behind after) ids)
sought_found p ids after last id s up found takes = sym (s.same ∙ ap (find p) (left_next last ids id up found) ∙ rw takes refl)

pub sought_on : (p : ℕ → Bool) (ids : List ℕ) (after last : Option ℕ) (id : ℕ) → Sought p ids after last → Ascend (λ n. n) ids
    → Some id ≡ first_above last ids → p id ≡ false → Sought p ids after (Some id)
sought_on p ids after last id s up found takes = record { same = s.same ∙ ap (find p) (left_next last ids id up found) ∙ rw takes refl }

pub sought_fewer : (ids : List ℕ) (last : Option ℕ) (id : ℕ) → Ascend (λ n. n) ids → Some id ≡ first_above last ids
    → length (filter (is_behind (Some id)) ids) < length (filter (is_behind last) ids)
sought_fewer ids last id up found = rw (left_next last ids id up found) (omega arith)

pub sought_none : (p : ℕ → Bool) (ids : List ℕ) (after last : Option ℕ) → Sought p ids after last → Ascend (λ n. n) ids
    → None ≡ first_above last ids → None ≡ find p (filter (is_behind after) ids)
sought_none p ids after last s up none =
    let end : first_behind last ids ≡ None = sym (above_behind last ids) ∙ sym none in
    let all : filter (is_behind last) ids ≡ [] = ids_next last ids up ∙ rw end refl in
    sym (s.same ∙ ap (find p) all)

-- of all that match, those that take it are the recipients
pub takers : (local : Bool) (text : List ℕ) (rows : List SubRow) (found out : List ℕ) → Ascend (λ row. row.id) rows
    → found ≡ matches text rows → out ≡ filter (takes_by_id local rows) found → out ≡ recipients local text rows
takers local text rows found out up p q =
    kept (λ row. row.id) (λ row. row.key.text) (λ row. takes local row.origin) text rows found out up p q

-- by text the first that takes it of those that match is the next recipient
pub next_by_tree : (local : Bool) (own_text text : List ℕ) (after : Option ℕ) (rows : List SubRow) → Ascend (λ row. row.id) rows
    → Some own_text ≡ Some text
    → find (takes_by_id local rows) (filter (is_behind after) (matches own_text rows)) ≡ next_recipient local text after rows
next_by_tree local own_text text after rows up meant =
    let same : own_text ≡ text = cc in
    first_of_numbers local own_text after rows up ∙ ap (λ (t : List ℕ). next_recipient local t after rows) same
