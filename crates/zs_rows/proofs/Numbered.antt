-- Rows that know their numbers, as the list of the rows alone.
use Rattle.std.proofs.Common.{◌≡◌, ℕ, ◌<◌, Bool, true, false, List, [], ◌∷◌, ◌++◌, Some, None, refl, sym, ap, ◌∙◌, subst, arith}
use Rattle.std.specs.Prelude.{◌==◌, nat_lt, not, filter, map, if◌then◌else◌}
use Rattle.std.specs.List.{AllByRecursion, find}
use Rattle.std.specs.Option.{unwrap_or}
use Rattle.std.proofs.lemmas.Bool.Decides.{nat_tests}
use Rattle.zs_rows.specs.Ascending.{Ascend, placed}
use Rattle.zs_rows.specs.Rows.{row_at, without_row, with_row, placed_row, AreNumbered, rows_of}
use Rattle.zs_rows.proofs.Ascending.{all_weaker, all_filter, all_placed}

-- the row of a number is the first that has it
pub row_of_number : {X : Type 0} (number : X → ℕ) (n : ℕ) (rows : List (ℕ × X)) → AreNumbered number rows → row_at n rows ≡ find (λ x. number x == n) (rows_of rows)
row_of_number number n [] are = refl
row_of_number number n (e ∷ rows) are = rw (are.0, row_of_number number n rows are.1) refl

-- a test of the rows keeps the same with and without their numbers
pub rows_filtered : {X : Type 0} (p : X → Bool) (rows : List (ℕ × X)) → rows_of (filter (λ e. p e.1) rows) ≡ filter p (rows_of rows)
rows_filtered p [] = refl
rows_filtered {X} p (e ∷ rows) = go (rows_filtered p rows) (p e.1) refl
  where
    go : rows_of (filter (λ (f : ℕ × X). p f.1) rows) ≡ filter p (rows_of rows) → (b : Bool) → p e.1 ≡ b → rows_of (filter (λ (f : ℕ × X). p f.1) (e ∷ rows)) ≡ filter p (rows_of (e ∷ rows))
    go more true is = rw (is, more) refl
    go more false is = rw (is, more) refl

-- and so does a test of the numbers
pub numbers_filtered : {X : Type 0} (number : X → ℕ) (p : ℕ → Bool) (rows : List (ℕ × X)) → AreNumbered number rows → rows_of (filter (λ e. p e.0) rows) ≡ filter (λ x. p (number x)) (rows_of rows)
numbers_filtered number p [] are = refl
numbers_filtered {X} number p (e ∷ rows) are = rw are.0 (go (numbers_filtered number p rows are.1) (p e.0) refl)
  where
    go : rows_of (filter (λ (f : ℕ × X). p f.0) rows) ≡ filter (λ x. p (number x)) (rows_of rows) → (b : Bool) → p e.0 ≡ b → rows_of (filter (λ (f : ℕ × X). p f.0) (e ∷ rows)) ≡ (if p e.0 then e.1 ∷ filter (λ x. p (number x)) (rows_of rows) else filter (λ x. p (number x)) (rows_of rows))
    go more true is = rw (is, more) refl
    go more false is = rw (is, more) refl

rows_append : {X : Type 0} (xs ys : List (ℕ × X)) → rows_of (xs ++ ys) ≡ rows_of xs ++ rows_of ys
rows_append [] ys = refl
rows_append (x ∷ xs) ys = ap (λ rest. x.1 ∷ rest) (rows_append xs ys)

-- without one
pub rows_without : {X : Type 0} (number : X → ℕ) (n : ℕ) (rows : List (ℕ × X)) → AreNumbered number rows → rows_of (without_row n rows) ≡ filter (λ x. not (number x == n)) (rows_of rows)
rows_without number n rows are = numbers_filtered number (λ m. not (m == n)) rows are

-- with one more
pub rows_placed : {X : Type 0} (number : X → ℕ) (n : ℕ) (x : X) (rows : List (ℕ × X)) → AreNumbered number rows → rows_of (placed_row n x rows) ≡ placed number n (x ∷ []) (rows_of rows)
rows_placed {X} number n x rows are =
    rows_append (filter (λ (e : ℕ × X). nat_lt e.0 n) rows) ((n, x) ∷ filter (λ (e : ℕ × X). not (nat_lt e.0 n)) rows)
    ∙ rw (numbers_filtered number (λ m. nat_lt m n) rows are, numbers_filtered number (λ m. not (nat_lt m n)) rows are) refl

-- with another in the place of one
pub rows_with : {X : Type 0} (number : X → ℕ) (n : ℕ) (y : X) (rows : List (ℕ × X)) → AreNumbered number rows → rows_of (with_row n y rows) ≡ map (λ x. if number x == n then y else x) (rows_of rows)
rows_with number n y [] are = refl
rows_with {X} number n y (e ∷ rows) are = rw are.0 (go (rows_with number n y rows are.1) (e.0 == n) refl)
  where
    go : rows_of (with_row n y rows) ≡ map (λ x. if number x == n then y else x) (rows_of rows) → (b : Bool) → (e.0 == n) ≡ b → rows_of (with_row n y (e ∷ rows)) ≡ (if e.0 == n then y else e.1) ∷ map (λ x. if number x == n then y else x) (rows_of rows)
    go more true is = rw (is, more) refl
    go more false is = rw (is, more) refl

-- their numbers ascend
pub rows_ascend : {X : Type 0} (number : X → ℕ) (rows : List (ℕ × X)) → AreNumbered number rows → Ascend (λ (e : ℕ × X). e.0) rows → Ascend number (rows_of rows)
rows_ascend number [] are up = tt
rows_ascend {X} number (e ∷ rows) are up = (rw are.0 (above rows are.1 up.0), rows_ascend number rows are.1 up.1)
  where
    above : (more : List (ℕ × X)) → AreNumbered number more → AllByRecursion (λ (f : ℕ × X). e.0 < f.0) more → AllByRecursion (λ x. e.0 < number x) (rows_of more)
    above [] each all = tt
    above (f ∷ more) each all = (rw each.0 all.0, above more each.1 all.1)

-- rows stay numbered
pub numbered_without : {X : Type 0} (number : X → ℕ) (n : ℕ) (rows : List (ℕ × X)) → AreNumbered number rows → AreNumbered number (without_row n rows)
numbered_without {X} number n rows are = all_filter (λ (e : ℕ × X). number e.1 ≡ e.0) (λ (e : ℕ × X). not (e.0 == n)) rows are

pub numbered_placed : {X : Type 0} (number : X → ℕ) (n : ℕ) (x : X) (rows : List (ℕ × X)) → AreNumbered number rows → number x ≡ n → AreNumbered number (placed_row n x rows)
numbered_placed {X} number n x rows are is = all_placed (λ (e : ℕ × X). number e.1 ≡ e.0) (λ (e : ℕ × X). e.0) n ((n, x) ∷ []) rows are (is, tt)

pub numbered_with : {X : Type 0} (number : X → ℕ) (n : ℕ) (y : X) (rows : List (ℕ × X)) → AreNumbered number rows → number y ≡ n → AreNumbered number (with_row n y rows)
numbered_with number n y [] are is = tt
numbered_with {X} number n y (e ∷ rows) are is = (go (e.0 == n) refl, numbered_with number n y rows are.1 is)
  where
    go : (b : Bool) → (e.0 == n) ≡ b → number (if e.0 == n then (e.0, y) else e).1 ≡ (if e.0 == n then (e.0, y) else e).0
    go true same = rw same (grind (arith, nat_tests, is, same))
    go false apart = rw apart are.0

-- no row has a number below all
pub none_found : {X : Type 0} (n : ℕ) (rows : List (ℕ × X)) → AllByRecursion (λ (e : ℕ × X). n < e.0) rows → row_at n rows ≡ None
none_found n [] all = refl
none_found n (e ∷ rows) all = grind (arith, nat_tests, all.0, none_found n rows all.1)

none_some : {X : Type 0} {x : X} → None ≡ Some x → ⊥
none_some e = cc

pub first_found : {X : Type 0} (x : ℕ × X) (xs : List (ℕ × X)) → row_at x.0 (x ∷ xs) ≡ Some x.1
first_found x xs = grind (arith, nat_tests)

pub later_found : {X : Type 0} (q : ℕ) (x : ℕ × X) (xs : List (ℕ × X)) → (x.0 == q) ≡ false → row_at q (x ∷ xs) ≡ row_at q xs
later_found q x xs apart = grind (arith, nat_tests, apart)

pairs_same : {X : Type 0} (x y : ℕ × X) → x.0 ≡ y.0 → Some x.1 ≡ Some y.1 → x ≡ y
pairs_same x y number row = λ i. (number i, unwrap_or (row i) x.1)

-- lists of rows in order are the same where each look-up finds the same
pub same_rows : {X : Type 0} (xs ys : List (ℕ × X)) → Ascend (λ (e : ℕ × X). e.0) xs → Ascend (λ (e : ℕ × X). e.0) ys → ((q : ℕ) → row_at q xs ≡ row_at q ys) → xs ≡ ys
same_rows [] [] up down same = refl
same_rows [] (y ∷ ys) up down same = absurd (none_some (same y.0 ∙ first_found y ys))
same_rows (x ∷ xs) [] up down same = absurd (none_some (sym (same x.0) ∙ first_found x xs))
same_rows {X} (x ∷ xs) (y ∷ ys) up down same = go (nat_lt x.0 y.0) refl (nat_lt y.0 x.0) refl
    (λ equal. same_rows xs ys up.1 down.1 (tails equal))
  where
    below : (n m : ℕ) (rows : List (ℕ × X)) → nat_lt n m ≡ true → AllByRecursion (λ (e : ℕ × X). m < e.0) rows → AllByRecursion (λ (e : ℕ × X). n < e.0) rows
    below n m rows lt all = all_weaker (λ (e : ℕ × X). m < e.0) (λ (e : ℕ × X). n < e.0) (λ e over. grind (arith, nat_tests, lt, over)) rows all

    test : (n m : ℕ) → nat_lt n m ≡ true → n < m
    test n m lt = grind (arith, nat_tests, lt)

    tails : x.0 ≡ y.0 → (q : ℕ) → row_at q xs ≡ row_at q ys
    tails equal q = apart (x.0 == q) refl
      where
        apart : (b : Bool) → (x.0 == q) ≡ b → row_at q xs ≡ row_at q ys
        apart true here =
            let q_is : x.0 ≡ q = grind (arith, nat_tests, here) in
            subst (λ n. row_at n xs ≡ row_at n ys) q_is (none_found x.0 xs up.0 ∙ sym (none_found x.0 ys (subst (λ n. AllByRecursion (λ (e : ℕ × X). n < e.0) ys) (sym equal) down.0)))
        apart false here = sym (later_found q x xs here) ∙ (same q ∙ later_found q y ys (grind (arith, nat_tests, here, equal)))

    go : (b : Bool) → nat_lt x.0 y.0 ≡ b → (d : Bool) → nat_lt y.0 x.0 ≡ d → (x.0 ≡ y.0 → xs ≡ ys) → x ∷ xs ≡ y ∷ ys
    go true lt d gt more = absurd (none_some (sym (none_found x.0 (y ∷ ys) (test x.0 y.0 lt, below x.0 y.0 ys lt down.0)) ∙ (sym (same x.0) ∙ first_found x xs)))
    go false lt true gt more = absurd (none_some (sym (none_found y.0 (x ∷ xs) (test y.0 x.0 gt, below y.0 x.0 xs gt up.0)) ∙ (same y.0 ∙ first_found y ys)))
    go false lt false gt more =
        let equal : x.0 ≡ y.0 = grind (arith, nat_tests, lt, gt) in
        let row : Some x.1 ≡ Some y.1 = sym (first_found x xs) ∙ (same x.0 ∙ (ap (λ n. row_at n (y ∷ ys)) equal ∙ first_found y ys)) in
        λ i. pairs_same x y equal row i ∷ more equal i
