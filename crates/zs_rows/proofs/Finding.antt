-- What an ordered map's calls make of the list of its rows.
use Rattle.std.proofs.Common.{◌≡◌, ℕ, ◌<◌, Bool, true, false, cond, List, [], ◌∷◌, Option, Some, refl, sym, ap, ◌∙◌, true≢false, arith}
use Rattle.std.specs.Prelude.{◌==◌, nat_lt, not, filter, is_some, if◌then◌else◌}
use Rattle.std.specs.List.{AllByRecursion}
use Rattle.std.specs.List.Sorted.{IsStrictlySortedBy}
use Rattle.std.specs.Map.{lookup, remove_entry, set_value, keys_of}
use Rattle.std.specs.Ordering.{nat_cmp, is_eq}
use Rattle.std.specs.BTreeMap.{is_at, insert_entry}
use Rattle.std.specs.declared.cmp.Ordering.TheVariants.{Less}
use Rattle.std.proofs.lemmas.Bool.Decides.{nat_tests}
use Rattle.std.proofs.lemmas.Map.Keys.{sorted_head, sorted_tail}
use Rattle.zs_rows.specs.Ascending.{Ascend}
use Rattle.zs_rows.specs.Rows.{row_at, without_row, with_row, placed_row, Updates}
use Rattle.zs_rows.proofs.Ascending.{all_weaker}

-- a number compares as equal to itself alone
pub equal_is : (n k : ℕ) → is_eq (nat_cmp n k) ≡ (k == n)
equal_is n k = grind (arith, nat_tests)

pub below_is : (n k : ℕ) → nat_cmp n k ≡ Less → n < k
below_is n k is = grind (arith, nat_tests, is)

-- a look-up in the map is one in the list
pub found : {X : Type 0} (n : ℕ) (rows : List (ℕ × X)) → lookup (is_at (nat_cmp n)) rows ≡ row_at n rows
found n [] = refl
found n (e ∷ rows) = rw (equal_is n e.0) (ap (λ r. cond (e.0 == n) (Some e.1) r) (found n rows))

-- the numbers of a map's rows ascend
keys_above : {X : Type 0} (n : ℕ) (rows : List (ℕ × X)) → AllByRecursion (λ k. nat_cmp n k ≡ Less) (keys_of rows) → AllByRecursion (λ (e : ℕ × X). n < e.0) rows
keys_above n [] all = tt
keys_above n (e ∷ rows) all = (below_is n e.0 all.0, keys_above n rows all.1)

pub ascends : {X : Type 0} (rows : List (ℕ × X)) → IsStrictlySortedBy nat_cmp (keys_of rows) → Ascend (λ (e : ℕ × X). e.0) rows
ascends [] sorted = tt
ascends (e ∷ rows) sorted = (keys_above e.0 rows (sorted_head nat_cmp e.0 (keys_of rows) sorted), ascends rows (sorted_tail nat_cmp e.0 (keys_of rows) sorted))

-- no row that is above a number has it
none_left : {X : Type 0} (n : ℕ) (rows : List (ℕ × X)) → AllByRecursion (λ (e : ℕ × X). n < e.0) rows → without_row n rows ≡ rows
none_left n [] all = refl
none_left n (e ∷ rows) all = grind (arith, nat_tests, all.0, none_left n rows all.1)

none_written : {X : Type 0} (n : ℕ) (x : X) (rows : List (ℕ × X)) → AllByRecursion (λ (e : ℕ × X). n < e.0) rows → with_row n x rows ≡ rows
none_written n x [] all = refl
none_written n x (e ∷ rows) all = grind (arith, nat_tests, all.0, none_written n x rows all.1)

none_below : {X : Type 0} (n : ℕ) (rows : List (ℕ × X)) → AllByRecursion (λ (e : ℕ × X). n < e.0) rows → filter (λ (e : ℕ × X). nat_lt e.0 n) rows ≡ []
none_below n [] all = refl
none_below n (e ∷ rows) all = grind (arith, nat_tests, all.0, none_below n rows all.1)

all_above : {X : Type 0} (n : ℕ) (rows : List (ℕ × X)) → AllByRecursion (λ (e : ℕ × X). n < e.0) rows → filter (λ (e : ℕ × X). not (nat_lt e.0 n)) rows ≡ rows
all_above n [] all = refl
all_above n (e ∷ rows) all = grind (arith, nat_tests, all.0, all_above n rows all.1)

-- what the map takes out
pub removed : {X : Type 0} (n : ℕ) (rows : List (ℕ × X)) → Ascend (λ (e : ℕ × X). e.0) rows → remove_entry (is_at (nat_cmp n)) rows ≡ without_row n rows
removed n [] up = refl
removed {X} n (e ∷ rows) up = rw (equal_is n e.0) (go (removed n rows up.1) (e.0 == n) refl)
  where
    go : remove_entry (is_at (nat_cmp n)) rows ≡ without_row n rows → (b : Bool) → (e.0 == n) ≡ b → cond (e.0 == n) rows (e ∷ remove_entry (is_at (nat_cmp n)) rows) ≡ without_row n (e ∷ rows)
    go more true is = let rest = none_left n rows (all_weaker (λ (later : ℕ × X). e.0 < later.0) (λ (later : ℕ × X). n < later.0) (λ y above. grind (arith, nat_tests, is, above)) rows up.0) in rw (is, rest) refl
    go more false is = rw (is, more) refl

-- what the map writes over
pub written : {X : Type 0} (n : ℕ) (x : X) (rows : List (ℕ × X)) → Ascend (λ (e : ℕ × X). e.0) rows → set_value (is_at (nat_cmp n)) rows x ≡ with_row n x rows
written n x [] up = refl
written {X} n x (e ∷ rows) up = rw (equal_is n e.0) (go (written n x rows up.1) (e.0 == n) refl)
  where
    go : set_value (is_at (nat_cmp n)) rows x ≡ with_row n x rows → (b : Bool) → (e.0 == n) ≡ b → cond (e.0 == n) ((e.0, x) ∷ rows) (e ∷ set_value (is_at (nat_cmp n)) rows x) ≡ with_row n x (e ∷ rows)
    go more true is = let rest = none_written n x rows (all_weaker (λ (later : ℕ × X). e.0 < later.0) (λ (later : ℕ × X). n < later.0) (λ y above. grind (arith, nat_tests, is, above)) rows up.0) in rw (is, rest) refl
    go more false is = rw (is, more) refl

-- what the map puts in
pub inserted : {X : Type 0} (n : ℕ) (x : X) (rows : List (ℕ × X)) → Ascend (λ (e : ℕ × X). e.0) rows → is_some (row_at n rows) ≡ false → insert_entry nat_cmp rows n x ≡ placed_row n x rows
inserted n x [] up unused = refl
inserted {X} n x (e ∷ rows) up unused = go (inserted n x rows up.1) (e.0 == n) refl (nat_lt n e.0) refl
  where
    go : (is_some (row_at n rows) ≡ false → insert_entry nat_cmp rows n x ≡ placed_row n x rows) → (b : Bool) → (e.0 == n) ≡ b → (c : Bool) → nat_lt n e.0 ≡ c → insert_entry nat_cmp (e ∷ rows) n x ≡ placed_row n x (e ∷ rows)
    go more true here c below = absurd (true≢false (sym (ap (λ b. is_some (if b then Some e.1 else row_at n rows)) here) ∙ unused))
    go more false apart true below =
        let over = all_weaker (λ (later : ℕ × X). e.0 < later.0) (λ (later : ℕ × X). n < later.0) (λ y lies. grind (arith, nat_tests, below, lies)) rows up.0 in
        grind (arith, nat_tests, apart, below, none_below n rows over, all_above n rows over)
    go more false apart false above =
        let rest = more (sym (ap (λ b. is_some (if b then Some e.1 else row_at n rows)) apart) ∙ unused) in
        grind (arith, nat_tests, apart, above, rest)

-- what a look-up finds after the map has changed at one number
pub updated : {X : Type 0} (n : ℕ) (x : Option X) (before after : List (ℕ × X)) → ((q : ℕ) → lookup (is_at (nat_cmp q)) after ≡ cond (is_at (nat_cmp n) q) x (lookup (is_at (nat_cmp q)) before)) → Updates n x before after
updated n x before after says q = sym (found q after) ∙ says q ∙ rw (equal_is n q, found q before) (go (q == n) refl)
  where
    go : (b : Bool) → (q == n) ≡ b → cond (q == n) x (row_at q before) ≡ (if n == q then x else row_at q before)
    go true same = grind (arith, nat_tests, same)
    go false apart = grind (arith, nat_tests, apart)

-- what a look-up finds after a row was written over
pub rewritten : {X : Type 0} (n : ℕ) (x : X) (rows : List (ℕ × X)) → is_some (row_at n rows) ≡ true → Updates n (Some x) rows (with_row n x rows)
rewritten {X} n x rows there q = elsewhere (n == q) refl
  where
    at : (m : ℕ) (more : List (ℕ × X)) → is_some (row_at m more) ≡ true → row_at m (with_row m x more) ≡ Some x
    at m [] none = absurd (true≢false (sym none))
    at m (e ∷ more) some = grind (arith, nat_tests, some, at m more)

    apart : (more : List (ℕ × X)) → (n == q) ≡ false → row_at q (with_row n x more) ≡ row_at q more
    apart [] is = refl
    apart (e ∷ more) is = grind (arith, nat_tests, is, apart more is)

    elsewhere : (b : Bool) → (n == q) ≡ b → row_at q (with_row n x rows) ≡ (if n == q then Some x else row_at q rows)
    elsewhere true same = grind (arith, nat_tests, same, at n rows there)
    elsewhere false is = grind (arith, nat_tests, is, apart rows is)
