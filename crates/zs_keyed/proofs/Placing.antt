-- A row in the place of the one with its number.
use Rattle.std.proofs.Common.{◌≡◌, ◌≢◌, ℕ, ◌<◌, Bool, true, false, List, [], ◌∷◌, Option, Some, None, refl, sym, ap, ◌∙◌, subst, arith}
use Rattle.std.specs.Prelude.{◌==◌, ◌&&◌, nat_lt, not, map, filter, bytes_eq, is_some, if◌then◌else◌}
use Rattle.std.specs.List.{AllByRecursion, find, list_any}
use Rattle.std.specs.Cmp.Lexicographic.{nat_list_eq_equiv}
use Rattle.std.proofs.lemmas.Bool.Decides.{nat_tests}
use Rattle.std.proofs.lemmas.Slice.Eq.{bytes_eq-Decides}
use Rattle.zs_rows.specs.Rows.{row_at, rows_of, with_row, AreNumbered}
use Rattle.zs_rows.proofs.Ending.{number_found, ascend_with}
use Rattle.zs_rows.proofs.Numbered.{row_of_number, rows_with, numbered_with}
use Rattle.zs_tree.specs.Rows.{Row, is_row, placed as tree_placed}
use Rattle.zs_keyed.specs.Ascending.{Ascend, placed_by}
use Rattle.zs_keyed.specs.Keyed.{keyed_by, with_other_key, IsInTree, AreKeyed}
use Rattle.zs_keyed.proofs.Ascending.{by_test, all_weaker, all_filter}
use Rattle.zs_keyed.proofs.ByKey.{placed_keyed, tree_without}
use Rattle.zs_keyed.proofs.Numbered.{keyed_up, keyed_over}

-- a number that is found among those above another one is above it
found_above : {X : Type 0} (number : X → ℕ) (n m : ℕ) (old : X) (xs : List X) → AllByRecursion (λ x. m < number x) xs → Some old ≡ find (λ x. number x == n) xs → m < n
found_above number n m old [] above found = absurd (cc)
found_above number n m old (x ∷ xs) above found =
    by_test (number x == n) (λ k. grind (arith, nat_tests, k, above.0)) (λ k. found_above number n m old xs above.1 (rw k at found))

none_over : {X : Type 0} (number : X → ℕ) (new : X) (n : ℕ) (xs : List X) → AllByRecursion (λ x. n < number x) xs → map (λ x. if number x == n then new else x) xs ≡ xs
none_over number new n [] above = refl
none_over number new n (x ∷ xs) above =
    let apart : (number x == n) ≡ false = grind (arith, nat_tests, above.0) in
    rw apart (ap (λ rest. x ∷ rest) (none_over number new n xs above.1))

none_out : {X : Type 0} (number : X → ℕ) (n : ℕ) (xs : List X) → AllByRecursion (λ x. n < number x) xs → filter (λ x. not (number x == n)) xs ≡ xs
none_out number n [] above = refl
none_out number n (x ∷ xs) above =
    let apart : (number x == n) ≡ false = grind (arith, nat_tests, above.0) in
    rw apart (ap (λ rest. x ∷ rest) (none_out number n xs above.1))

placed_front : {X : Type 0} (number : X → ℕ) (new : X) (xs : List X) → AllByRecursion (λ x. number new < number x) xs → placed_by number new xs ≡ new ∷ xs
placed_front number new [] above = refl
placed_front number new (x ∷ xs) above =
    let apart : (number x == number new) ≡ false = grind (arith, nat_tests, above.0) in
    let below : nat_lt (number new) (number x) ≡ true = grind (arith, nat_tests, above.0) in
    rw (apart, below) refl

-- those behind a row that has the number are above it
behind_it : {X : Type 0} (number : X → ℕ) (n : ℕ) (x : X) (xs : List X) → (number x == n) ≡ true → AllByRecursion (λ later. number x < number later) xs → AllByRecursion (λ later. n < number later) xs
behind_it number n x xs is up = all_weaker (λ later. number x < number later) (λ later. n < number later) (λ later more. grind (arith, nat_tests, is, more)) xs up

-- writing over is placing
pub written_is : {X : Type 0} (number : X → ℕ) (new old : X) (n : ℕ) (xs : List X) → Ascend number xs → number new ≡ n → Some old ≡ find (λ x. number x == n) xs → map (λ x. if number x == n then new else x) xs ≡ placed_by number new xs
written_is number new old n [] up is found = absurd (cc)
written_is number new old n (x ∷ xs) up is found =
    by_test (number x == n)
    (λ k.
    let same : (number x == number new) ≡ true = grind (arith, nat_tests, k, is) in
    rw (k, same) (ap (λ rest. new ∷ rest) (none_over number new n xs (behind_it number n x xs k up.0))))
    (λ k.
    let later : Some old ≡ find (λ x. number x == n) xs = rw k at found in
    let above : number x < n = found_above number n (number x) old xs up.0 later in
    let apart : (number x == number new) ≡ false = grind (arith, nat_tests, k, is) in
    let below : nat_lt (number new) (number x) ≡ false = grind (arith, nat_tests, above, is) in
    rw (k, apart, below) (ap (λ rest. x ∷ rest) (written_is number new old n xs up.1 is later)))

-- and so is placing where the old one was taken out
pub placed_again : {X : Type 0} (number : X → ℕ) (new : X) (n : ℕ) (xs : List X) → Ascend number xs → number new ≡ n → placed_by number new (filter (λ x. not (number x == n)) xs) ≡ placed_by number new xs
placed_again number new n [] up is = refl
placed_again number new n (x ∷ xs) up is =
    by_test (number x == n)
    (λ k.
    let same : (number x == number new) ≡ true = grind (arith, nat_tests, k, is) in
    let above = behind_it number n x xs k up.0 in
    let front = placed_front number new xs (all_weaker (λ later. n < number later) (λ later. number new < number later) (λ later more. grind (arith, nat_tests, is, more)) xs above) in
    rw (k, same) (ap (placed_by number new) (none_out number n xs above) ∙ front))
    (λ k.
    let apart : (number x == number new) ≡ false = grind (arith, nat_tests, k, is) in
    by_test (nat_lt (number new) (number x))
    (λ lt.
    let out = none_out number n xs (all_weaker (λ later. number x < number later) (λ later. n < number later) (λ later more. grind (arith, nat_tests, is, lt, more)) xs up.0) in
    rw (k, apart, lt) (ap (λ rest. new ∷ x ∷ rest) out))
    (λ lt. rw (k, apart, lt) (ap (λ rest. x ∷ rest) (placed_again number new n xs up.1 is))))

none_left : {X : Type 0} (number : X → ℕ) (n : ℕ) (xs : List X) → AllByRecursion (λ x. number x ≢ n) (filter (λ x. not (number x == n)) xs)
none_left number n [] = tt
none_left {X} number n (x ∷ xs) = go (number x == n) refl (none_left number n xs)
  where
    go : (b : Bool) → (number x == n) ≡ b → AllByRecursion (λ y. number y ≢ n) (filter (λ y. not (number y == n)) xs) → AllByRecursion (λ y. number y ≢ n) (filter (λ y. not (number y == n)) (x ∷ xs))
    go true k more = rw k more
    go false k more = rw k ((λ same. absurd (grind (arith, nat_tests, same, k))), more)

-- the key of a row that is found stands in the tree
in_tree : {R : Type 0} (number : R → ℕ) (text : R → List ℕ) (n : ℕ) (old : R) (rows : List R) → Some old ≡ find (λ row. number row == n) rows → list_any (is_row n (text old)) (map (keyed_by number text) rows) ≡ true
in_tree number text n old [] found = absurd (cc)
in_tree {R} number text n old (row ∷ rows) found = go (number row == n) refl (in_tree number text n old rows)
  where
    go : (b : Bool) → (number row == n) ≡ b → (Some old ≡ find (λ r. number r == n) rows → list_any (is_row n (text old)) (map (keyed_by number text) rows) ≡ true) → list_any (is_row n (text old)) (map (keyed_by number text) (row ∷ rows)) ≡ true
    go true k more =
        let there : Some old ≡ Some row = rw k at found in
        let same : old ≡ row = cc in
        let text_is : bytes_eq (text row) (text old) ≡ true = rw same (nat_list_eq_equiv.refl (text row)) in
        rw (k, text_is) refl
    go false k more = rw k (more (rw k at found))

pub is_in_tree : {R : Type 0} (number : R → ℕ) (text : R → List ℕ) (n : ℕ) (rows : List (ℕ × R)) (tree : List Row) → AreKeyed number text rows tree → IsInTree text n (row_at n rows) tree
is_in_tree {R} number text n rows tree is = go (row_at n rows) refl
  where
    go : (o : Option R) → row_at n rows ≡ o → IsInTree text n o tree
    go None found = tt
    go (Some old) found = rw is.tree_is (in_tree number text n old (rows_of rows) (sym found ∙ row_of_number number n rows is.numbered))

-- a row in the place of the one with its number
pub keyed_written : {R : Type 0} (number : R → ℕ) (text : R → List ℕ) (n : ℕ) (new old : R) (rows : List (ℕ × R)) (tree tree' : List Row) → AreKeyed number text rows tree → Some old ≡ row_at n rows → number new ≡ n
    → tree' ≡ with_other_key text n (Some old) new tree → AreKeyed number text (with_row n new rows) tree'
keyed_written {R} number text n new old rows tree tree' is found numbered renewed = go (bytes_eq (text old) (text new)) refl
  where
    up : Ascend number (rows_of rows)
    up = keyed_up number text rows tree is

    there : Some old ≡ find (λ row. number row == n) (rows_of rows)
    there = found ∙ row_of_number number n rows is.numbered

    go : (b : Bool) → bytes_eq (text old) (text new) ≡ b → AreKeyed number text (with_row n new rows) tree'
    go true k =
        let same : text old ≡ text new = (bytes_eq-Decides (text old) (text new)).0 k in
        let stays : tree' ≡ tree = renewed ∙ rw k refl in
        subst (AreKeyed number text (with_row n new rows)) (sym stays)
        (keyed_over number text n old new rows tree is found (numbered ∙ sym (number_found number n old rows is.numbered (sym found))) (sym same))
    go false k =
        let changed : tree' ≡ tree_placed (record { id = n; text = text new }) (filter (λ row. not (is_row n (text old) row)) tree) = renewed ∙ rw k refl in
        let left : List R = filter (λ row. not (number row == n)) (rows_of rows) in
        let out = tree_without number text n old (rows_of rows) left tree (filter (λ row. not (is_row n (text old) row)) tree) is.tree_is up there refl refl in
        let free : AllByRecursion (λ other. number other ≢ number new) left = rw numbered (none_left number n (rows_of rows)) in
        let put : tree_placed (keyed_by number text new) (map (keyed_by number text) left) ≡ map (keyed_by number text) (placed_by number new left) = placed_keyed number text new left free in
        let list : rows_of (with_row n new rows) ≡ placed_by number new left = rows_with number n new rows is.numbered ∙ (written_is number new old n (rows_of rows) up numbered there ∙ sym (placed_again number new n (rows_of rows) up numbered)) in
        let own : tree_placed (record { id = n; text = text new }) (map (keyed_by number text) left) ≡ tree_placed (keyed_by number text new) (map (keyed_by number text) left) = ap (λ (m : ℕ). tree_placed (record { id = m; text = text new }) (map (keyed_by number text) left)) (sym numbered) in
        record {
          ascending = ascend_with n new rows is.ascending;
          numbered = numbered_with number n new rows is.numbered numbered;
          tree_is = changed ∙ (ap (tree_placed (record { id = n; text = text new })) out ∙ (own ∙ (put ∙ ap (map (keyed_by number text)) (sym list))));
        }

-- the rows as contracts see them
pub rows_written : {R : Type 0} (number : R → ℕ) (text : R → List ℕ) (n : ℕ) (new old : R) (rows : List (ℕ × R)) (tree : List Row) → AreKeyed number text rows tree → Some old ≡ row_at n rows → number new ≡ n → rows_of (with_row n new rows) ≡ placed_by number new (rows_of rows)
rows_written number text n new old rows tree is found numbered =
    rows_with number n new rows is.numbered ∙ written_is number new old n (rows_of rows) (keyed_up number text rows tree is) numbered (found ∙ row_of_number number n rows is.numbered)
