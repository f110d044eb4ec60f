-- Rows under their numbers with the tree of their keys, as the list of the rows alone.
use Rattle.std.proofs.Common.{◌≡◌, ◌≢◌, ℕ, ◌<◌, Bool, true, false, List, [], ◌∷◌, ◌++◌, Option, Some, None, refl, sym, ap, ◌∙◌, subst, arith}
use Rattle.std.specs.Prelude.{◌==◌, ◌&&◌, ◌||◌, nat_lt, not, map, filter, All, is_some, MatchBool, if◌then◌else◌}
use Rattle.std.specs.List.{AllByRecursion, find, list_any}
use Rattle.std.proofs.lemmas.Bool.Decides.{nat_tests}
use Rattle.std.proofs.lemmas.List.Elements.{All-from_recursion}
use Rattle.zs_rows.specs.Rows.{row_at, rows_of, first_of, is_behind, without_row, with_row, placed_row, Updates, AreNumbered}
use Rattle.zs_rows.proofs.Ascending.{all_fail}
use Rattle.zs_rows.proofs.Ending.{number_found, ascend_with}
use Rattle.zs_rows.proofs.Numbered.{row_of_number, rows_placed, rows_without, rows_with, rows_ascend, numbered_without, numbered_placed, numbered_with, none_found, same_rows}
use Rattle.zs_tree.specs.Rows.{Row, is_row}
use Rattle.zs_keyed.specs.Ascending.{Ascend, placed_by}
use Rattle.zs_keyed.specs.Keyed.{keyed_by, with_key, AreKeyed}
use Rattle.zs_keyed.proofs.Ascending.{found_any, none_has, placed_is, all_weaker}
use Rattle.zs_keyed.proofs.ByKey.{tree_put, tree_without}

-- no row, no key
pub keyed_none : {R : Type 0} (number : R → ℕ) (text : R → List ℕ) → AreKeyed number text [] []
keyed_none number text = record { ascending = tt; numbered = tt; tree_is = refl }

-- the rows ascend
pub keyed_up : {R : Type 0} (number : R → ℕ) (text : R → List ℕ) (rows : List (ℕ × R)) (tree : List Row) → AreKeyed number text rows tree → Ascend number (rows_of rows)
keyed_up number text rows tree is = rows_ascend number rows is.numbered is.ascending

-- one has a number where it is found by it
pub any_at : {R : Type 0} (number : R → ℕ) (n : ℕ) (rows : List (ℕ × R)) → AreNumbered number rows → is_some (row_at n rows) ≡ list_any (λ row. number row == n) (rows_of rows)
any_at number n rows are = ap is_some (row_of_number number n rows are) ∙ found_any (λ row. number row == n) (rows_of rows)

-- the rows with one where it belongs
pub rows_put : {R : Type 0} (number : R → ℕ) (text : R → List ℕ) (row : R) (rows rows' : List (ℕ × R)) (tree : List Row) → AreKeyed number text rows tree → list_any (λ other. number other == number row) (rows_of rows) ≡ false → rows' ≡ placed_row (number row) row rows → rows_of rows' ≡ placed_by number row (rows_of rows)
rows_put number text row rows rows' tree is unused put =
    ap rows_of put ∙ (rows_placed number (number row) row rows is.numbered ∙ placed_is number row (rows_of rows) (keyed_up number text rows tree is) (none_has number (number row) (rows_of rows) unused))

here : {R : Type 0} (n : ℕ) (row : R) (before after : List (ℕ × R)) → Updates n (Some row) before after → row_at n after ≡ Some row
here n row before after found = found n ∙ grind (arith, nat_tests)

-- with one more row
pub keyed_more : {R : Type 0} (number : R → ℕ) (text : R → List ℕ) (row : R) (rows rows' : List (ℕ × R)) (tree tree' : List Row) → AreKeyed number text rows tree → list_any (λ other. number other == number row) (rows_of rows) ≡ false → rows' ≡ placed_row (number row) row rows → Updates (number row) (Some row) rows rows' → Ascend (λ (e : ℕ × R). e.0) rows' → tree' ≡ with_key text (number row) (row_at (number row) rows') tree → AreKeyed number text rows' tree'
keyed_more {R} number text row rows rows' tree tree' is unused put found up noted = record {
  ascending = up;
  numbered = subst (AreNumbered number) (sym put) (numbered_placed number (number row) row rows is.numbered refl);
  tree_is = tree_put number text row (rows_of rows) (rows_of rows') tree tree' is.tree_is (none_has number (number row) (rows_of rows) unused)
      (noted ∙ ap (λ (o : Option R). with_key text (number row) o tree) (here (number row) row rows rows' found)) (rows_put number text row rows rows' tree is unused put);
}

-- without a row that was put in, all is as it was
pub undone : {R : Type 0} (n : ℕ) (row : R) (rows more less : List (ℕ × R)) → Ascend (λ (e : ℕ × R). e.0) rows → Ascend (λ (e : ℕ × R). e.0) less → is_some (row_at n rows) ≡ false → Updates n (Some row) rows more → Updates n None more less → less ≡ rows
undone {R} n row rows more less up down unused put out = same_rows less rows down up each
  where
    none : (o : Option R) → is_some o ≡ false → o ≡ None
    none None is = refl
    none (Some x) is = absurd (grind (arith, is))

    at : (q : ℕ) (b : Bool) → (n == q) ≡ b → (if n == q then None else row_at q more) ≡ row_at q rows
    at q true same =
        let is : n ≡ q = grind (arith, nat_tests, same) in
        rw same (sym (subst (λ (m : ℕ). row_at m rows ≡ None) is (none (row_at n rows) unused)))
    at q false apart = rw apart (put q ∙ rw apart refl)

    each : (q : ℕ) → row_at q less ≡ row_at q rows
    each q = out q ∙ at q (n == q) refl

-- without a row that is not there, all is as it was
pub without_none : {R : Type 0} (n : ℕ) (rows : List (ℕ × R)) → None ≡ row_at n rows → without_row n rows ≡ rows
without_none n [] none = refl
without_none {R} n (e ∷ rows) none = go (e.0 == n) refl (without_none n rows)
  where
    go : (b : Bool) → (e.0 == n) ≡ b → (None ≡ row_at n rows → without_row n rows ≡ rows) → without_row n (e ∷ rows) ≡ e ∷ rows
    go true is more = let there : None ≡ Some e.1 = rw is at none in absurd (cc)
    go false is more = rw is (ap (λ (rest : List (ℕ × R)). e ∷ rest) (more (rw is at none)))

pub keyed_same : {R : Type 0} (number : R → ℕ) (text : R → List ℕ) (rows rows' : List (ℕ × R)) (tree : List Row) → AreKeyed number text rows tree → rows' ≡ rows → AreKeyed number text rows' tree
keyed_same number text rows rows' tree is same = subst (λ rows. AreKeyed number text rows tree) (sym same) is

-- without the row of a number
pub keyed_less : {R : Type 0} (number : R → ℕ) (text : R → List ℕ) (n : ℕ) (row : R) (rows rows' : List (ℕ × R)) (tree tree' : List Row) → AreKeyed number text rows tree → Some row ≡ row_at n rows → rows' ≡ without_row n rows → Ascend (λ (e : ℕ × R). e.0) rows' → tree' ≡ filter (λ r. not (is_row n (text row) r)) tree → AreKeyed number text rows' tree'
keyed_less {R} number text n row rows rows' tree tree' is found out up removed = record {
  ascending = up;
  numbered = subst (AreNumbered number) (sym out) (numbered_without number n rows is.numbered);
  tree_is = tree_without number text n row (rows_of rows) (rows_of rows') tree tree' is.tree_is (keyed_up number text rows tree is)
      (found ∙ row_of_number number n rows is.numbered) removed (ap rows_of out ∙ rows_without number n rows is.numbered);
}

-- where no row has the number, none is changed
pub counted_none : {R : Type 0} (number : R → ℕ) (f : R → R) (n : ℕ) (rows : List (ℕ × R)) → AreNumbered number rows → None ≡ row_at n rows → rows_of rows ≡ map (λ row. if number row == n then f row else row) (rows_of rows)
counted_none number f n [] are none = refl
counted_none {R} number f n (e ∷ rows) are none = rw are.0 (go (e.0 == n) refl (counted_none number f n rows are.1))
  where
    go : (b : Bool) → (e.0 == n) ≡ b → (None ≡ row_at n rows → rows_of rows ≡ map (λ row. if number row == n then f row else row) (rows_of rows)) → e.1 ∷ rows_of rows ≡ (if e.0 == n then f e.1 else e.1) ∷ map (λ row. if number row == n then f row else row) (rows_of rows)
    go true is more = let there : None ≡ Some e.1 = rw is at none in absurd (cc)
    go false is more = rw is (ap (λ (rest : List R). e.1 ∷ rest) (more (rw is at none)))

-- the one row of a number is changed where another is written over it
pub counted_one : {R : Type 0} (number : R → ℕ) (f : R → R) (n : ℕ) (row new : R) (rows : List (ℕ × R)) → AreNumbered number rows → Ascend (λ (e : ℕ × R). e.0) rows → Some row ≡ row_at n rows → new ≡ f row → rows_of (with_row n new rows) ≡ map (λ row. if number row == n then f row else row) (rows_of rows)
counted_one number f n row new [] are up found is = refl
counted_one {R} number f n row new (e ∷ rows) are up found is = rw are.0 (go (e.0 == n) refl (counted_one number f n row new rows are.1 up.1))
  where
    go : (b : Bool) → (e.0 == n) ≡ b → (Some row ≡ row_at n rows → new ≡ f row → rows_of (with_row n new rows) ≡ map (λ row. if number row == n then f row else row) (rows_of rows)) → rows_of (with_row n new (e ∷ rows)) ≡ (if e.0 == n then f e.1 else e.1) ∷ map (λ row. if number row == n then f row else row) (rows_of rows)
    go true is_it more =
        let there : Some row ≡ Some e.1 = rw is_it at found in
        let same : row ≡ e.1 = cc in
        let n_is : e.0 ≡ n = grind (arith, nat_tests, is_it) in
        let none : None ≡ row_at n rows = sym (none_found n rows (all_weaker (λ (later : ℕ × R). e.0 < later.0) (λ (later : ℕ × R). n < later.0) (λ later over. grind (arith, nat_tests, is_it, over)) rows up.0)) in
        let rest = rows_with number n new rows are.1 in
        rw (is_it, is, same, rest) (ap (λ (more : List R). f e.1 ∷ more) (sym (counted_none number (λ x. new) n rows are.1 none) ∙ counted_none number f n rows are.1 none))
    go false apart more = rw apart (ap (λ (rest : List R). e.1 ∷ rest) (more (rw apart at found) is))

keyed_as : {R : Type 0} (number : R → ℕ) (text : R → List ℕ) (n : ℕ) (row new : R) (rows : List (ℕ × R)) → AreNumbered number rows → Ascend (λ (e : ℕ × R). e.0) rows → Some row ≡ row_at n rows → number new ≡ number row → text new ≡ text row → map (keyed_by number text) (rows_of (with_row n new rows)) ≡ map (keyed_by number text) (rows_of rows)
keyed_as number text n row new [] are up found same_number same_text = refl
keyed_as {R} number text n row new (e ∷ rows) are up found same_number same_text = go (e.0 == n) refl (keyed_as number text n row new rows are.1 up.1)
  where
    go : (b : Bool) → (e.0 == n) ≡ b → (Some row ≡ row_at n rows → number new ≡ number row → text new ≡ text row → map (keyed_by number text) (rows_of (with_row n new rows)) ≡ map (keyed_by number text) (rows_of rows)) → map (keyed_by number text) (rows_of (with_row n new (e ∷ rows))) ≡ map (keyed_by number text) (rows_of (e ∷ rows))
    go true is_it more =
        let there : Some row ≡ Some e.1 = rw is_it at found in
        let same : row ≡ e.1 = cc in
        let none : None ≡ row_at n rows = sym (none_found n rows (all_weaker (λ (later : ℕ × R). e.0 < later.0) (λ (later : ℕ × R). n < later.0) (λ later over. grind (arith, nat_tests, is_it, over)) rows up.0)) in
        let rest : rows_of (with_row n new rows) ≡ rows_of rows = rows_with number n new rows are.1 ∙ sym (counted_none number (λ x. new) n rows are.1 none) in
        let head : keyed_by number text new ≡ keyed_by number text e.1 = λ i. record { id = (same_number ∙ ap number same) i; text = (same_text ∙ ap text same) i } in
        rw (is_it, rest) (λ i. head i ∷ map (keyed_by number text) (rows_of rows))
    go false apart more = rw apart (ap (λ (rest : List Row). keyed_by number text e.1 ∷ rest) (more (rw apart at found) same_number same_text))

-- a row with the number and the key of the one that it is written over
pub keyed_over : {R : Type 0} (number : R → ℕ) (text : R → List ℕ) (n : ℕ) (row new : R) (rows : List (ℕ × R)) (tree : List Row) → AreKeyed number text rows tree → Some row ≡ row_at n rows → number new ≡ number row → text new ≡ text row → AreKeyed number text (with_row n new rows) tree
keyed_over {R} number text n row new rows tree is found same_number same_text = record {
  ascending = ascend_with n new rows is.ascending;
  numbered = numbered_with number n new rows is.numbered (same_number ∙ number_found number n row rows is.numbered (sym found));
  tree_is = is.tree_is ∙ sym (keyed_as number text n row new rows is.numbered is.ascending found same_number same_text);
}

-- one is not below a number where it has it, or is above it
not_below : {R : Type 0} (number : R → ℕ) (n : ℕ) (rows : List (ℕ × R)) → AreNumbered number rows → list_any (λ row. not (nat_lt (number row) n)) (rows_of rows) ≡ (is_some (row_at n rows) || is_some (first_of (filter (λ (e : ℕ × R). is_behind (Some n) e.0) rows)))
not_below number n [] are = refl
not_below {R} number n (e ∷ rows) are = rw are.0 (go (e.0 == n) refl (nat_lt n e.0) refl (not_below number n rows are.1))
  where
    both : (a : Bool) → (a || true) ≡ true
    both true = refl
    both false = refl

    go : (b : Bool) → (e.0 == n) ≡ b → (c : Bool) → nat_lt n e.0 ≡ c
        → list_any (λ row. not (nat_lt (number row) n)) (rows_of rows) ≡ (is_some (row_at n rows) || is_some (first_of (filter (λ (f : ℕ × R). is_behind (Some n) f.0) rows)))
        → (not (nat_lt e.0 n) || list_any (λ row. not (nat_lt (number row) n)) (rows_of rows)) ≡ (is_some (row_at n (e ∷ rows)) || is_some (first_of (filter (λ (f : ℕ × R). is_behind (Some n) f.0) (e ∷ rows))))
    go true same c over more =
        let low : nat_lt e.0 n ≡ false = grind (arith, nat_tests, same) in
        rw (same, low) refl
    go false apart true over more =
        let low : nat_lt e.0 n ≡ false = grind (arith, nat_tests, over) in
        rw (apart, over, low) (sym (both (is_some (row_at n rows))))
    go false apart false under more =
        let low : nat_lt e.0 n ≡ true = grind (arith, nat_tests, apart, under) in
        rw (apart, under, low) more

pub above_match : {R : Type 0} (number : R → ℕ) (n : ℕ) (rows : List (ℕ × R)) (b c : Bool) → AreNumbered number rows → b ≡ is_some (row_at n rows) → c ≡ is_some (first_of (filter (λ (e : ℕ × R). is_behind (Some n) e.0) rows))
    → MatchBool (not b && not c) (All (λ row. number row < n) (rows_of rows)) (list_any (λ row. not (nat_lt (number row) n)) (rows_of rows) ≡ true)
above_match number n rows true c are has more = not_below number n rows are ∙ rw (← has) refl
above_match number n rows false true are has more = not_below number n rows are ∙ rw (← has, ← more) refl
above_match number n rows false false are has more =
    let none : list_any (λ row. not (nat_lt (number row) n)) (rows_of rows) ≡ false = not_below number n rows are ∙ rw (← has, ← more) refl in
    All-from_recursion (λ row. number row < n) (rows_of rows)
    (all_weaker (λ row. not (nat_lt (number row) n) ≡ false) (λ row. number row < n) (λ row is. grind (arith, nat_tests, is)) (rows_of rows) (all_fail (λ row. not (nat_lt (number row) n)) (rows_of rows) none))
