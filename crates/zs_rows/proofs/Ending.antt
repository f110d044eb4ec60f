-- What it means for a list of rows that some are found by an index and taken out.
use Rattle.std.proofs.Common.{◌≡◌, ℕ, ◌<◌, ◌≤◌, Bool, true, false, List, [], ◌∷◌, length, Option, Some, None, refl, sym, ap, ◌∙◌, subst, true≢false, arith}
use Rattle.std.specs.Prelude.{◌==◌, ◌&&◌, ◌||◌, nat_le, not, filter, map, option_map, MatchOption, if◌then◌else◌}
use Rattle.std.specs.List.{AllByRecursion}
use Rattle.std.proofs.lemmas.Bool.Decides.{nat_tests}
use Rattle.zs_rows.specs.declared.mark.Mark.{Mark}
use Rattle.zs_rows.specs.Ascending.{Ascend}
use Rattle.zs_rows.specs.Index.{is_marked, is_marked_up_to, is_mark, names, row_names, IsIndexOf}
use Rattle.zs_rows.specs.Rows.{row_at, AreNumbered, rows_of, first_of, EndsOne}
use Rattle.zs_rows.proofs.Ascending.{all_weaker, all_both}
use Rattle.zs_rows.proofs.Numbered.{later_found, first_found}

-- each row is found by its number
pub all_found : {X : Type 0} (rows : List (ℕ × X)) → Ascend (λ (e : ℕ × X). e.0) rows → AllByRecursion (λ (e : ℕ × X). row_at e.0 rows ≡ Some e.1) rows
all_found [] up = tt
all_found {X} (e ∷ rows) up = (first_found e rows, all_both (λ (f : ℕ × X). e.0 < f.0) (λ (f : ℕ × X). row_at f.0 rows ≡ Some f.1) (λ (f : ℕ × X). row_at f.0 (e ∷ rows) ≡ Some f.1) (λ f lt is. later_found f.0 e rows (apart e.0 f.0 lt) ∙ is) rows up.0 (all_found rows up.1))
  where
    apart : (n m : ℕ) → n < m → (n == m) ≡ false
    apart n m lt = grind (arith, nat_tests, lt)

-- a row that is found has the number
pub number_found : {X : Type 0} (number : X → ℕ) (n : ℕ) (x : X) (rows : List (ℕ × X)) → AreNumbered number rows → row_at n rows ≡ Some x → number x ≡ n
number_found number n x [] are is = absurd (impossible is)
  where
    impossible : None ≡ Some x → ⊥
    impossible e = cc
number_found {X} number n x (e ∷ rows) are is = go (number_found number n x rows are.1) (e.0 == n) refl
  where
    go : (row_at n rows ≡ Some x → number x ≡ n) → (b : Bool) → (e.0 == n) ≡ b → number x ≡ n
    go more true here = let same : e.1 ≡ x = some_same (sym (ap (λ b. if b then Some e.1 else row_at n rows) here) ∙ is) in ap number (sym same) ∙ (are.0 ∙ number_is here)
      where
        some_same : Some e.1 ≡ Some x → e.1 ≡ x
        some_same p = cc

        number_is : (e.0 == n) ≡ true → e.0 ≡ n
        number_is p = grind (arith, nat_tests, p)
    go more false apart = more (sym (ap (λ b. if b then Some e.1 else row_at n rows) apart) ∙ is)

-- no row behind a number has it
none_out : {X : Type 0} (number : X → ℕ) (n : ℕ) (rows : List (ℕ × X)) → AreNumbered number rows → AllByRecursion (λ (e : ℕ × X). n < e.0) rows → filter (λ x. not (number x == n)) (rows_of rows) ≡ rows_of rows
none_out number n [] are all = refl
none_out number n (e ∷ rows) are all = rw are.0 (go (none_out number n rows are.1 all.1))
  where
    go : filter (λ x. not (number x == n)) (rows_of rows) ≡ rows_of rows → (if not (e.0 == n) then e.1 ∷ filter (λ x. not (number x == n)) (rows_of rows) else filter (λ x. not (number x == n)) (rows_of rows)) ≡ e.1 ∷ rows_of rows
    go more = grind (arith, nat_tests, all.0, more)

none_changed : {X : Type 0} (number : X → ℕ) (n : ℕ) (f : X → X) (rows : List (ℕ × X)) → AreNumbered number rows → AllByRecursion (λ (e : ℕ × X). n < e.0) rows → map (λ x. if number x == n then f x else x) (rows_of rows) ≡ rows_of rows
none_changed number n f [] are all = refl
none_changed number n f (e ∷ rows) are all = rw are.0 (go (none_changed number n f rows are.1 all.1))
  where
    go : map (λ x. if number x == n then f x else x) (rows_of rows) ≡ rows_of rows → (if e.0 == n then f e.1 else e.1) ∷ map (λ x. if number x == n then f x else x) (rows_of rows) ≡ e.1 ∷ rows_of rows
    go more = grind (arith, nat_tests, all.0, more)

above : {X : Type 0} (n : ℕ) (e : ℕ × X) (rows : List (ℕ × X)) → (e.0 == n) ≡ true → AllByRecursion (λ (f : ℕ × X). e.0 < f.0) rows → AllByRecursion (λ (f : ℕ × X). n < f.0) rows
above {X} n e rows is all = all_weaker (λ (f : ℕ × X). e.0 < f.0) (λ (f : ℕ × X). n < f.0) (λ f lt. grind (arith, nat_tests, is, lt)) rows all

here_is : {X : Type 0} (n : ℕ) (x : X) (e : ℕ × X) (rows : List (ℕ × X)) → (e.0 == n) ≡ true → row_at n (e ∷ rows) ≡ Some x → e.1 ≡ x
here_is n x e rows here is = some_same (sym (ap (λ b. if b then Some e.1 else row_at n rows) here) ∙ is)
  where
    some_same : Some e.1 ≡ Some x → e.1 ≡ x
    some_same p = cc

later_is : {X : Type 0} (n : ℕ) (x : X) (e : ℕ × X) (rows : List (ℕ × X)) → (e.0 == n) ≡ false → row_at n (e ∷ rows) ≡ Some x → row_at n rows ≡ Some x
later_is n x e rows apart is = sym (later_found n e rows apart) ∙ is

no_row : {X : Type 0} (n : ℕ) (x : X) → row_at n [] ≡ Some x → ⊥
no_row n x e = cc

-- with one row changed
pub rows_changed : {X : Type 0} (number : X → ℕ) (n : ℕ) (f : X → X) (x y : X) (rows : List (ℕ × X)) → AreNumbered number rows → Ascend (λ (e : ℕ × X). e.0) rows → row_at n rows ≡ Some x → y ≡ f x → rows_of (map (λ (e : ℕ × X). if e.0 == n then (e.0, y) else e) rows) ≡ map (λ z. if number z == n then f z else z) (rows_of rows)
rows_changed number n f x y [] are up is same = absurd (no_row n x is)
rows_changed {X} number n f x y (e ∷ rows) are up is same = rw are.0 (go (rows_changed number n f x y rows are.1 up.1) (e.0 == n) refl)
  where
    none : (more : List (ℕ × X)) → AllByRecursion (λ (g : ℕ × X). n < g.0) more → rows_of (map (λ (g : ℕ × X). if g.0 == n then (g.0, y) else g) more) ≡ rows_of more
    none [] all = refl
    none (g ∷ more) all = grind (arith, nat_tests, all.0, none more all.1)

    go : (row_at n rows ≡ Some x → y ≡ f x → rows_of (map (λ (g : ℕ × X). if g.0 == n then (g.0, y) else g) rows) ≡ map (λ z. if number z == n then f z else z) (rows_of rows)) → (b : Bool) → (e.0 == n) ≡ b → rows_of (map (λ (g : ℕ × X). if g.0 == n then (g.0, y) else g) (e ∷ rows)) ≡ (if e.0 == n then f e.1 else e.1) ∷ map (λ z. if number z == n then f z else z) (rows_of rows)
    go more true here =
        let over = above n e rows here up.0 in
        let first : y ≡ f e.1 = same ∙ ap f (sym (here_is n x e rows here is)) in
        rw (here, none rows over, none_changed number n f rows are.1 over) (ap (λ z. z ∷ rows_of rows) first)
    go more false apart = rw (apart, more (later_is n x e rows apart is) same) refl

-- a row that is written over by itself
pub row_rewritten : {X : Type 0} (n : ℕ) (x : X) (rows : List (ℕ × X)) → Ascend (λ (e : ℕ × X). e.0) rows → row_at n rows ≡ Some x → map (λ (e : ℕ × X). if e.0 == n then (e.0, x) else e) rows ≡ rows
row_rewritten n x [] up is = refl
row_rewritten {X} n x (e ∷ rows) up is = go (row_rewritten n x rows up.1) (e.0 == n) refl
  where
    none : (more : List (ℕ × X)) → AllByRecursion (λ (g : ℕ × X). n < g.0) more → map (λ (g : ℕ × X). if g.0 == n then (g.0, x) else g) more ≡ more
    none [] all = refl
    none (g ∷ more) all = grind (arith, nat_tests, all.0, none more all.1)

    go : (row_at n rows ≡ Some x → map (λ (g : ℕ × X). if g.0 == n then (g.0, x) else g) rows ≡ rows) → (b : Bool) → (e.0 == n) ≡ b → map (λ (g : ℕ × X). if g.0 == n then (g.0, x) else g) (e ∷ rows) ≡ e ∷ rows
    go more true here = rw (here, none rows (above n e rows here up.0)) (ap (λ (y : X). (e.0, y) ∷ rows) (sym (here_is n x e rows here is)))
    go more false apart = rw (apart, more (later_is n x e rows apart is)) refl

-- numbers ascend whatever is written over
pub ascend_with : {X : Type 0} (n : ℕ) (y : X) (rows : List (ℕ × X)) → Ascend (λ (e : ℕ × X). e.0) rows → Ascend (λ (e : ℕ × X). e.0) (map (λ (e : ℕ × X). if e.0 == n then (e.0, y) else e) rows)
ascend_with n y [] up = tt
ascend_with {X} n y (e ∷ rows) up = (go (e.0 == n) refl, ascend_with n y rows up.1)
  where
    number_of : (f : ℕ × X) → (if f.0 == n then (f.0, y) else f).0 ≡ f.0
    number_of f = pick (f.0 == n) refl
      where
        pick : (b : Bool) → (f.0 == n) ≡ b → (if f.0 == n then (f.0, y) else f).0 ≡ f.0
        pick true is = rw is refl
        pick false is = rw is refl

    over : (k : ℕ) (more : List (ℕ × X)) → AllByRecursion (λ (f : ℕ × X). k < f.0) more → AllByRecursion (λ (f : ℕ × X). k < f.0) (map (λ (f : ℕ × X). if f.0 == n then (f.0, y) else f) more)
    over k [] all = tt
    over k (f ∷ more) all = (subst (λ m. k < m) (sym (number_of f)) all.0, over k more all.1)

    go : (b : Bool) → (e.0 == n) ≡ b → AllByRecursion (λ (f : ℕ × X). (if e.0 == n then (e.0, y) else e).0 < f.0) (map (λ (f : ℕ × X). if f.0 == n then (f.0, y) else f) rows)
    go b is = subst (λ k. AllByRecursion (λ (f : ℕ × X). k < f.0) (map (λ (f : ℕ × X). if f.0 == n then (f.0, y) else f) rows)) (sym (number_of e)) (over e.0 rows up.0)

-- a row that a test fails may be left out before the test
pub without_failed : {X : Type 0} (number : X → ℕ) (keeps : X → Bool) (n : ℕ) (x : X) (rows : List (ℕ × X)) → AreNumbered number rows → Ascend (λ (e : ℕ × X). e.0) rows → row_at n rows ≡ Some x → keeps x ≡ false → filter keeps (filter (λ z. not (number z == n)) (rows_of rows)) ≡ filter keeps (rows_of rows)
without_failed number keeps n x [] are up is fails = refl
without_failed {X} number keeps n x (e ∷ rows) are up is fails = rw are.0 (go (without_failed number keeps n x rows are.1 up.1) (e.0 == n) refl (keeps e.1) refl)
  where
    go : (row_at n rows ≡ Some x → keeps x ≡ false → filter keeps (filter (λ z. not (number z == n)) (rows_of rows)) ≡ filter keeps (rows_of rows)) → (b : Bool) → (e.0 == n) ≡ b → (k : Bool) → keeps e.1 ≡ k
        → filter keeps (if not (e.0 == n) then e.1 ∷ filter (λ z. not (number z == n)) (rows_of rows) else filter (λ z. not (number z == n)) (rows_of rows)) ≡ filter keeps (e.1 ∷ rows_of rows)
    go more true here k kept =
        let rest = none_out number n rows are.1 (above n e rows here up.0) in
        let failed : keeps e.1 ≡ false = ap keeps (here_is n x e rows here is) ∙ fails in
        rw (here, rest, failed) refl
    go more false apart true kept = rw (apart, kept, more (later_is n x e rows apart is) fails) refl
    go more false apart false kept = rw (apart, kept, more (later_is n x e rows apart is) fails) refl

-- a filter makes no list longer
filter_short : {X : Type 0} (p : X → Bool) (xs : List X) → length (filter p xs) ≤ length xs
filter_short p [] = omega arith
filter_short p (x ∷ xs) = go (p x) refl (filter_short p xs)
  where
    go : (b : Bool) → p x ≡ b → length (filter p xs) ≤ length xs → length (filter p (x ∷ xs)) ≤ length (x ∷ xs)
    go true is more = rw is (omega (arith, more))
    go false is more = rw is (omega (arith, more))

-- and leaving a row out makes it shorter
pub without_shorter : {X : Type 0} (number : X → ℕ) (n : ℕ) (x : X) (rows : List (ℕ × X)) → AreNumbered number rows → row_at n rows ≡ Some x → length (filter (λ z. not (number z == n)) (rows_of rows)) < length (rows_of rows)
without_shorter number n x [] are is = absurd (no_row n x is)
without_shorter {X} number n x (e ∷ rows) are is = rw are.0 (go (without_shorter number n x rows are.1) (e.0 == n) refl)
  where
    go : (row_at n rows ≡ Some x → length (filter (λ z. not (number z == n)) (rows_of rows)) < length (rows_of rows)) → (b : Bool) → (e.0 == n) ≡ b → length (if not (e.0 == n) then e.1 ∷ filter (λ z. not (number z == n)) (rows_of rows) else filter (λ z. not (number z == n)) (rows_of rows)) < length (e.1 ∷ rows_of rows)
    go more true here = rw here (let short = filter_short (λ z. not (number z == n)) (rows_of rows) in omega (arith, short))
    go more false apart = rw apart (let short = more (later_is n x e rows apart is) in omega (arith, short))

-- a test that all rows pass keeps all
pub all_kept : {X : Type 0} (keeps : X → Bool) (rows : List (ℕ × X)) → AllByRecursion (λ (e : ℕ × X). keeps e.1 ≡ true) rows → filter keeps (rows_of rows) ≡ rows_of rows
all_kept keeps [] all = refl
all_kept keeps (e ∷ rows) all = rw (all.0, all_kept keeps rows all.1) refl

not_of : (b c : Bool) → b ≡ c → not b ≡ not c
not_of b c is = ap not is

-- a row that names a key
named_row : {X : Type 0} (key_of : X → Option ℕ) (k : ℕ) (r : Option X) → row_names key_of k r ≡ true → (x : X) × (r ≡ Some x) × (names k (key_of x) ≡ true)
named_row key_of k None is = absurd (true≢false (sym is))
named_row key_of k (Some x) is = (x, refl, is)

-- what the first number under a key says of the rows
pub under_ends : {X : Type 0} (number : X → ℕ) (key_of : X → Option ℕ) (k : ℕ) (rows : List (ℕ × X)) (marks : List Mark) → AreNumbered number rows → Ascend (λ (e : ℕ × X). e.0) rows → IsIndexOf key_of rows marks → (r : Option ℕ) → MatchOption r ((n : ℕ) → is_marked k n marks ≡ false) (λ n. is_marked k n marks ≡ true) → EndsOne number (λ x. not (names k (key_of x))) r (rows_of rows)
under_ends {X} number key_of k rows marks are up is None none = all_kept (λ x. not (names k (key_of x))) rows (all_weaker (λ (e : ℕ × X). row_at e.0 rows ≡ Some e.1) (λ (e : ℕ × X). not (names k (key_of e.1)) ≡ true) (λ e found. ap not (sym (ap (row_names key_of k) found) ∙ (sym (is k e.0) ∙ none e.0))) rows (all_found rows up))
under_ends {X} number key_of k rows marks are up is (Some n) one =
    let row = named_row key_of k (row_at n rows) (sym (is k n) ∙ one) in
    (without_failed number (λ x. not (names k (key_of x))) n row.0 rows are up row.1 (ap not row.2), without_shorter number n row.0 rows are row.1)

-- a number under a key stands under one up to any above
up_to_from : (k end n : ℕ) (marks : List Mark) → k ≤ end → is_marked k n marks ≡ true → is_marked_up_to end n marks ≡ true
up_to_from k end n [] le is = is
up_to_from k end n (m ∷ marks) le is = go (is_mark k n m) refl (up_to_from k end n marks le)
  where
    go : (b : Bool) → is_mark k n m ≡ b → (is_marked k n marks ≡ true → is_marked_up_to end n marks ≡ true) → is_marked_up_to end n (m ∷ marks) ≡ true
    go true here more = grind (arith, nat_tests, here, le)
    go false apart more = let rest = more (sym (ap (λ b. b || is_marked k n marks) apart) ∙ is) in or_true _ _ rest
      where
        or_true : (a b : Bool) → b ≡ true → (a || b) ≡ true
        or_true true b p = refl
        or_true false b p = p

-- and one under a key up to an end stands under one of these
under_some : (end n : ℕ) (marks : List Mark) → is_marked_up_to end n marks ≡ true → (k : ℕ) × (k ≤ end) × (is_marked k n marks ≡ true)
under_some end n [] is = absurd (true≢false (sym is))
under_some end n (m ∷ marks) is = go (nat_le m.key end) refl (m.number == n) refl (under_some end n marks)
  where
    or_true : (a b : Bool) → b ≡ true → (a || b) ≡ true
    or_true true b p = refl
    or_true false b p = p

    rest : (b c : Bool) → (b && c) ≡ false → (nat_le m.key end && (m.number == n)) ≡ (b && c) → is_marked_up_to end n marks ≡ true
    rest b c fails same = sym (ap (λ d. d || is_marked_up_to end n marks) (same ∙ fails)) ∙ is

    go : (b : Bool) → nat_le m.key end ≡ b → (c : Bool) → (m.number == n) ≡ c → (is_marked_up_to end n marks ≡ true → (k : ℕ) × (k ≤ end) × (is_marked k n marks ≡ true)) → (k : ℕ) × (k ≤ end) × (is_marked k n (m ∷ marks) ≡ true)
    go true le true here more = (m.key, grind (arith, nat_tests, le), grind (arith, nat_tests, here))
    go true le false apart more = let one = more (rest true false refl (λ i. le i && apart i)) in (one.0, one.1, or_true (is_mark one.0 n m) (is_marked one.0 n marks) one.2)
    go false gt c here more = let one = more (rest false c refl (λ i. gt i && here i)) in (one.0, one.1, or_true (is_mark one.0 n m) (is_marked one.0 n marks) one.2)

-- whether a row, if there is one, is due
abbrev pub is_due_at : {X : Type 0} → (X → ℕ) → ℕ → Option X → Bool
is_due_at time end None = false
is_due_at time end (Some x) = nat_le (time x) end

names_itself : (k : ℕ) → names k (Some k) ≡ true
names_itself k = grind (arith, nat_tests)

named_is : (k j : ℕ) → names k (Some j) ≡ true → j ≡ k
named_is k j is = grind (arith, nat_tests, is)

-- an index by moments tells who is due
pub due_is : {X : Type 0} (time : X → ℕ) (end q : ℕ) (rows : List (ℕ × X)) (marks : List Mark) → IsIndexOf (λ x. Some (time x)) rows marks → is_marked_up_to end q marks ≡ is_due_at time end (row_at q rows)
due_is {X} time end q rows marks is = go (is_marked_up_to end q marks) refl (row_at q rows) refl
  where
    go : (b : Bool) → is_marked_up_to end q marks ≡ b → (r : Option X) → row_at q rows ≡ r → is_marked_up_to end q marks ≡ is_due_at time end (row_at q rows)
    go true marked r row =
        let one = under_some end q marks marked in
        let named = named_row (λ x. Some (time x)) one.0 (row_at q rows) (sym (is one.0 q) ∙ one.2) in
        marked ∙ (sym (due_one one.0 (time named.0) (named_is one.0 (time named.0) named.2) one.1) ∙ ap (is_due_at time end) (sym named.1))
      where
        due_one : (k j : ℕ) → j ≡ k → k ≤ end → nat_le j end ≡ true
        due_one k j same le = grind (arith, nat_tests, same, le)
    go false unmarked None row = unmarked ∙ ap (is_due_at time end) (sym row)
    go false unmarked (Some x) row = unmarked ∙ (sym (not_due (nat_le (time x) end) refl) ∙ ap (is_due_at time end) (sym row))
      where
        le_of : (n : ℕ) → nat_le n end ≡ true → n ≤ end
        le_of n p = grind (arith, nat_tests, p)

        not_due : (b : Bool) → nat_le (time x) end ≡ b → nat_le (time x) end ≡ false
        not_due true due = absurd (true≢false (sym (up_to_from (time x) end q marks (le_of (time x) due) (is (time x) q ∙ (ap (row_names (λ y. Some (time y)) (time x)) row ∙ names_itself (time x)))) ∙ unmarked))
        not_due false gt = gt

-- what the first mark up to a moment says of the rows
pub due_ends : {X : Type 0} (number time : X → ℕ) (end : ℕ) (rows : List (ℕ × X)) (marks : List Mark) → AreNumbered number rows → Ascend (λ (e : ℕ × X). e.0) rows → IsIndexOf (λ x. Some (time x)) rows marks → (r : Option Mark) → MatchOption r ((n : ℕ) → is_marked_up_to end n marks ≡ false) (λ m. (m.key ≤ end) × (first_of marks ≡ Some m)) → EndsOne number (λ x. not (nat_le (time x) end)) (option_map (λ (m : Mark). m.number) r) (rows_of rows)
due_ends {X} number time end rows marks are up is None none = all_kept (λ x. not (nat_le (time x) end)) rows (all_weaker (λ (e : ℕ × X). row_at e.0 rows ≡ Some e.1) (λ (e : ℕ × X). not (nat_le (time e.1) end) ≡ true) (λ e found. ap not (sym (ap (is_due_at time end) found) ∙ (sym (due_is time end e.0 rows marks is) ∙ none e.0))) rows (all_found rows up))
due_ends {X} number time end rows marks are up is (Some m) one =
    let marked = first_marked marks one.1 in
    let row = named_row (λ x. Some (time x)) m.key (row_at m.number rows) (sym (is m.key m.number) ∙ marked) in
    let due = due_one (time row.0) (named_is m.key (time row.0) row.2) in
    (without_failed number (λ x. not (nat_le (time x) end)) m.number row.0 rows are up row.1 (ap not due), without_shorter number m.number row.0 rows are row.1)
  where
    due_one : (j : ℕ) → j ≡ m.key → nat_le j end ≡ true
    due_one j same = grind (arith, nat_tests, same, one.0)

    itself : (x : Mark) → is_mark x.key x.number x ≡ true
    itself x = grind (arith, nat_tests)

    first_marked : (ms : List Mark) → first_of ms ≡ Some m → is_marked m.key m.number ms ≡ true
    first_marked [] p = absurd (no p)
      where
        no : None ≡ Some m → ⊥
        no e = cc
    first_marked (x ∷ ms) p = let same : x ≡ m = some_same p in subst (λ (y : Mark). is_marked y.key y.number (x ∷ ms) ≡ true) same (rw (itself x) refl)
      where
        some_same : Some x ≡ Some m → x ≡ m
        some_same e = cc
