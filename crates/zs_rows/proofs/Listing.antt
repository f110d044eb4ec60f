-- The numbers of those rows that an index tells, as a list.
use Rattle.std.proofs.Common.{◌≡◌, ℕ, ◌<◌, Bool, true, false, List, [], ◌∷◌, Option, Some, None, refl, sym, ap, ◌∙◌, arith}
use Rattle.std.specs.Prelude.{◌==◌, nat_le, filter, map, if◌then◌else◌}
use Rattle.std.specs.List.{AllByRecursion}
use Rattle.std.proofs.lemmas.Bool.Decides.{nat_tests}
use Rattle.zs_rows.specs.declared.mark.Mark.{Mark}
use Rattle.zs_rows.specs.Ascending.{Ascend}
use Rattle.zs_rows.specs.Index.{is_marked_up_to, names, row_names, under, IsIndexOf}
use Rattle.zs_rows.specs.Numbers.{is_in}
use Rattle.zs_rows.specs.Rows.{row_at, rows_of, numbers_of, AreNumbered, is_behind, first_of, row_named}
use Rattle.zs_rows.proofs.Ascending.{all_weaker, all_filter, ascend_filter}
use Rattle.zs_rows.proofs.Numbered.{same_rows, numbers_filtered, rows_filtered}
use Rattle.zs_rows.proofs.Ending.{is_due_at, due_is, all_found}
use Rattle.zs_rows.proofs.Marking.{in_under}

-- numbers as rows that hold nothing else
abbrev as_rows : List ℕ → List (ℕ × Bool)
as_rows [] = []
as_rows (n ∷ numbers) = (n, true) ∷ as_rows numbers

as_numbers : (numbers : List ℕ) → map (λ (e : ℕ × Bool). e.0) (as_rows numbers) ≡ numbers
as_numbers [] = refl
as_numbers (n ∷ numbers) = ap (λ rest. n ∷ rest) (as_numbers numbers)

rows_above : (n : ℕ) (numbers : List ℕ) → AllByRecursion (λ m. n < m) numbers → AllByRecursion (λ (e : ℕ × Bool). n < e.0) (as_rows numbers)
rows_above n [] all = tt
rows_above n (m ∷ numbers) all = (all.0, rows_above n numbers all.1)

rows_up : (numbers : List ℕ) → Ascend (λ n. n) numbers → Ascend (λ (e : ℕ × Bool). e.0) (as_rows numbers)
rows_up [] up = tt
rows_up (n ∷ numbers) up = (rows_above n numbers up.0, rows_up numbers up.1)

found_in : (q : ℕ) (numbers : List ℕ) → row_at q (as_rows numbers) ≡ (if is_in q numbers then Some true else None)
found_in q [] = refl
found_in q (n ∷ numbers) = go (n == q) refl (found_in q numbers)
  where
    go : (b : Bool) → (n == q) ≡ b → row_at q (as_rows numbers) ≡ (if is_in q numbers then Some true else None) → row_at q (as_rows (n ∷ numbers)) ≡ (if is_in q (n ∷ numbers) then Some true else None)
    go true is more = rw is refl
    go false is more = rw is more

-- numbers in order are the same where they have the same members
pub same_numbers : (xs ys : List ℕ) → Ascend (λ n. n) xs → Ascend (λ n. n) ys → ((q : ℕ) → is_in q xs ≡ is_in q ys) → xs ≡ ys
same_numbers xs ys up down same =
    let rows = same_rows (as_rows xs) (as_rows ys) (rows_up xs up) (rows_up ys down) (λ q. found_in q xs ∙ (ap (λ b. if b then Some true else None) (same q) ∙ sym (found_in q ys))) in
    sym (as_numbers xs) ∙ (ap (map (λ (e : ℕ × Bool). e.0)) rows ∙ as_numbers ys)

numbers_above : {X : Type 0} (n : ℕ) (rows : List (ℕ × X)) → AllByRecursion (λ (e : ℕ × X). n < e.0) rows → AllByRecursion (λ m. n < m) (numbers_of rows)
numbers_above n [] all = tt
numbers_above n (e ∷ rows) all = (all.0, numbers_above n rows all.1)

pub numbers_up : {X : Type 0} (rows : List (ℕ × X)) → Ascend (λ (e : ℕ × X). e.0) rows → Ascend (λ n. n) (numbers_of rows)
numbers_up [] up = tt
numbers_up (e ∷ rows) up = (numbers_above e.0 rows up.0, numbers_up rows up.1)

not_in : {X : Type 0} (q : ℕ) (rows : List (ℕ × X)) → AllByRecursion (λ (e : ℕ × X). q < e.0) rows → is_in q (numbers_of rows) ≡ false
not_in q [] all = refl
not_in q (e ∷ rows) all = grind (arith, nat_tests, all.0, not_in q rows all.1)

-- the numbers of those rows that are due
pub due_in : {X : Type 0} (time : X → ℕ) (end q : ℕ) (rows : List (ℕ × X)) → Ascend (λ (e : ℕ × X). e.0) rows → is_in q (numbers_of (filter (λ (e : ℕ × X). nat_le (time e.1) end) rows)) ≡ is_due_at time end (row_at q rows)
due_in time end q [] up = refl
due_in {X} time end q (e ∷ rows) up = go (e.0 == q) refl (nat_le (time e.1) end) refl (due_in time end q rows up.1)
  where
    none : (e.0 == q) ≡ true → is_in q (numbers_of (filter (λ (f : ℕ × X). nat_le (time f.1) end) rows)) ≡ false
    none here = not_in q (filter (λ (f : ℕ × X). nat_le (time f.1) end) rows) (all_filter (λ (f : ℕ × X). q < f.0) (λ (f : ℕ × X). nat_le (time f.1) end) rows (all_weaker (λ (f : ℕ × X). e.0 < f.0) (λ (f : ℕ × X). q < f.0) (λ f lt. grind (arith, nat_tests, here, lt)) rows up.0))

    go : (b : Bool) → (e.0 == q) ≡ b → (c : Bool) → nat_le (time e.1) end ≡ c → is_in q (numbers_of (filter (λ (f : ℕ × X). nat_le (time f.1) end) rows)) ≡ is_due_at time end (row_at q rows) → is_in q (numbers_of (filter (λ (f : ℕ × X). nat_le (time f.1) end) (e ∷ rows))) ≡ is_due_at time end (row_at q (e ∷ rows))
    go true here true le more = rw (le, here, le) refl
    go true here false gt more = rw (gt, here, gt, none here) refl
    go false apart true le more = rw (le, apart, more) refl
    go false apart false gt more = rw (gt, apart, more) refl

-- the numbers that an index by moments hands out
pub due_numbers : {X : Type 0} (time : X → ℕ) (end : ℕ) (numbers : List ℕ) (rows : List (ℕ × X)) (marks : List Mark) → Ascend (λ (e : ℕ × X). e.0) rows → IsIndexOf (λ x. Some (time x)) rows marks → Ascend (λ n. n) numbers → ((n : ℕ) → is_in n numbers ≡ is_marked_up_to end n marks) → numbers ≡ numbers_of (filter (λ (e : ℕ × X). nat_le (time e.1) end) rows)
due_numbers {X} time end numbers rows marks up is rise members =
    same_numbers numbers (numbers_of (filter (λ (e : ℕ × X). nat_le (time e.1) end) rows)) rise
    (numbers_up (filter (λ (e : ℕ × X). nat_le (time e.1) end) rows) (ascend_filter (λ (e : ℕ × X). e.0) (λ (e : ℕ × X). nat_le (time e.1) end) rows up))
    (λ q. members q ∙ (due_is time end q rows marks is ∙ sym (due_in time end q rows up)))

-- all are behind no number
pub all_behind : (numbers : List ℕ) → filter (λ n. is_behind None n) numbers ≡ numbers
all_behind [] = refl
all_behind (n ∷ numbers) = ap (λ rest. n ∷ rest) (all_behind numbers)

-- the numbers of those rows that name a key
named_in : {X : Type 0} (key_of : X → Option ℕ) (key q : ℕ) (rows : List (ℕ × X)) → Ascend (λ (e : ℕ × X). e.0) rows → is_in q (numbers_of (filter (λ (e : ℕ × X). names key (key_of e.1)) rows)) ≡ row_names key_of key (row_at q rows)
named_in key_of key q [] up = refl
named_in {X} key_of key q (e ∷ rows) up = go (e.0 == q) refl (names key (key_of e.1)) refl (named_in key_of key q rows up.1)
  where
    none : (e.0 == q) ≡ true → is_in q (numbers_of (filter (λ (f : ℕ × X). names key (key_of f.1)) rows)) ≡ false
    none here = not_in q (filter (λ (f : ℕ × X). names key (key_of f.1)) rows) (all_filter (λ (f : ℕ × X). q < f.0) (λ (f : ℕ × X). names key (key_of f.1)) rows (all_weaker (λ (f : ℕ × X). e.0 < f.0) (λ (f : ℕ × X). q < f.0) (λ f lt. grind (arith, nat_tests, here, lt)) rows up.0))

    go : (b : Bool) → (e.0 == q) ≡ b → (d : Bool) → names key (key_of e.1) ≡ d → is_in q (numbers_of (filter (λ (f : ℕ × X). names key (key_of f.1)) rows)) ≡ row_names key_of key (row_at q rows) → is_in q (numbers_of (filter (λ (f : ℕ × X). names key (key_of f.1)) (e ∷ rows))) ≡ row_names key_of key (row_at q (e ∷ rows))
    go true here true named more = rw (named, here) (sym named)
    go true here false other more = rw (other, here, none here) (sym other)
    go false apart true named more = rw (named, apart, more) refl
    go false apart false other more = rw (other, apart, more) refl

-- the numbers that stand under a key
pub under_is : {X : Type 0} (key_of : X → Option ℕ) (key : ℕ) (rows : List (ℕ × X)) (marks : List Mark) → Ascend (λ (e : ℕ × X). e.0) rows → IsIndexOf key_of rows marks → Ascend (λ n. n) (under key marks) → under key marks ≡ numbers_of (filter (λ (e : ℕ × X). names key (key_of e.1)) rows)
under_is {X} key_of key rows marks up is rise =
    same_numbers (under key marks) (numbers_of (filter (λ (e : ℕ × X). names key (key_of e.1)) rows)) rise
    (numbers_up (filter (λ (e : ℕ × X). names key (key_of e.1)) rows) (ascend_filter (λ (e : ℕ × X). e.0) (λ (e : ℕ × X). names key (key_of e.1)) rows up))
    (λ q. in_under key q marks ∙ (is key q ∙ sym (named_in key_of key q rows up)))

numbers_behind : {X : Type 0} (p : ℕ → Bool) (rows : List (ℕ × X)) → filter p (numbers_of rows) ≡ numbers_of (filter (λ (e : ℕ × X). p e.0) rows)
numbers_behind p [] = refl
numbers_behind {X} p (e ∷ rows) = go (p e.0) refl (numbers_behind p rows)
  where
    go : (b : Bool) → p e.0 ≡ b → filter p (numbers_of rows) ≡ numbers_of (filter (λ (f : ℕ × X). p f.0) rows) → filter p (numbers_of (e ∷ rows)) ≡ numbers_of (filter (λ (f : ℕ × X). p f.0) (e ∷ rows))
    go true is more = rw (is, more) refl
    go false is more = rw (is, more) refl

first_row_of : {X : Type 0} (all rows : List (ℕ × X)) → AllByRecursion (λ (e : ℕ × X). row_at e.0 all ≡ Some e.1) rows → row_named (first_of (numbers_of rows)) all ≡ first_of (rows_of rows)
first_row_of all [] found = refl
first_row_of all (e ∷ rows) found = found.0

-- the next row that names a key, by the next number under it
pub next_named : {X : Type 0} (number : X → ℕ) (key_of : X → Option ℕ) (key : ℕ) (after : Option ℕ) (rows : List (ℕ × X)) (marks : List Mark) → AreNumbered number rows → Ascend (λ (e : ℕ × X). e.0) rows → IsIndexOf key_of rows marks → Ascend (λ n. n) (under key marks) → row_named (first_of (filter (λ n. is_behind after n) (under key marks))) rows ≡ first_of (filter (λ x. is_behind after (number x)) (filter (λ x. names key (key_of x)) (rows_of rows)))
next_named {X} number key_of key after rows marks are up is rise =
    ap (λ (ns : List ℕ). row_named (first_of (filter (λ n. is_behind after n) ns)) rows) (under_is key_of key rows marks up is rise)
    ∙ (ap (λ (ns : List ℕ). row_named (first_of ns) rows) (numbers_behind (λ n. is_behind after n) named)
    ∙ (first_row_of rows (filter (λ (e : ℕ × X). is_behind after e.0) named)
    (all_filter (λ (e : ℕ × X). row_at e.0 rows ≡ Some e.1) (λ (e : ℕ × X). is_behind after e.0) named (all_filter (λ (e : ℕ × X). row_at e.0 rows ≡ Some e.1) (λ (e : ℕ × X). names key (key_of e.1)) rows (all_found rows up)))
    ∙ (ap first_of (numbers_filtered number (λ n. is_behind after n) named (all_filter (λ (e : ℕ × X). number e.1 ≡ e.0) (λ (e : ℕ × X). names key (key_of e.1)) rows are))
    ∙ ap (λ (xs : List X). first_of (filter (λ x. is_behind after (number x)) xs)) (rows_filtered (λ x. names key (key_of x)) rows))))
  where
    named : List (ℕ × X)
    named = filter (λ (e : ℕ × X). names key (key_of e.1)) rows
