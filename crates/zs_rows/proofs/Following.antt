-- Rows under numbers that follow one another, put in or taken out one by one.
use Rattle.std.proofs.Common.{◌≡◌, ℕ, ◌+◌, ◌<◌, ◌≤◌, Bool, true, false, List, [], ◌∷◌, ◌++◌, length, Option, Some, None, refl, sym, ap, ◌∙◌, arith}
use Rattle.std.specs.Prelude.{◌==◌, ◌&&◌, ◌||◌, nat_lt, not, filter, is_some, if◌then◌else◌}
use Rattle.std.specs.List.{AllByRecursion}
use Rattle.std.proofs.lemmas.Bool.Decides.{nat_tests}
use Rattle.std.proofs.lemmas.List.Elements.{filter-append}
use Rattle.zs_rows.specs.Ascending.{Ascend, placed}
use Rattle.zs_rows.specs.declared.mark.Mark.{Mark}
use Rattle.zs_rows.specs.Index.{is_marked, names, Notes, Forgets, IsSame, NotesFrom, ForgetsFrom}
use Rattle.zs_rows.specs.Rows.{row_at, without_row, placed_row, from_number, is_between, AreFree}
use Rattle.zs_rows.proofs.Ascending.{all_weaker, all_both, all_filter, all_pass, all_placed}

append_assoc : {X : Type 0} (xs ys zs : List X) → (xs ++ ys) ++ zs ≡ xs ++ (ys ++ zs)
append_assoc [] ys zs = refl
append_assoc (x ∷ xs) ys zs = ap (λ rest. x ∷ rest) (append_assoc xs ys zs)

pub keep_all : {X : Type 0} (p : X → Bool) (xs : List X) → AllByRecursion (λ x. p x ≡ true) xs → filter p xs ≡ xs
keep_all p [] all = refl
keep_all p (x ∷ xs) all = rw (all.0, keep_all p xs all.1) refl

pub keep_none : {X : Type 0} (p : X → Bool) (xs : List X) → AllByRecursion (λ x. p x ≡ false) xs → filter p xs ≡ []
keep_none p [] all = refl
keep_none p (x ∷ xs) all = rw (all.0, keep_none p xs all.1) refl

-- a test of the first element
keep_first : {X : Type 0} (p : X → Bool) (x : X) (xs : List X) → p x ≡ true → filter p (x ∷ xs) ≡ x ∷ filter p xs
keep_first p x xs is = rw is refl

drop_first : {X : Type 0} (p : X → Bool) (x : X) (xs : List X) → p x ≡ false → filter p (x ∷ xs) ≡ filter p xs
drop_first p x xs is = rw is refl

-- rows in order are those below a number and then the others
pub parts : {X : Type 0} (n : ℕ) (rows : List (ℕ × X)) → Ascend (λ (e : ℕ × X). e.0) rows → filter (λ (e : ℕ × X). nat_lt e.0 n) rows ++ filter (λ (e : ℕ × X). not (nat_lt e.0 n)) rows ≡ rows
parts n [] up = refl
parts {X} n (e ∷ rows) up = go (nat_lt e.0 n) refl (parts n rows up.1)
  where
    go : (b : Bool) → nat_lt e.0 n ≡ b → filter (λ (f : ℕ × X). nat_lt f.0 n) rows ++ filter (λ (f : ℕ × X). not (nat_lt f.0 n)) rows ≡ rows → filter (λ (f : ℕ × X). nat_lt f.0 n) (e ∷ rows) ++ filter (λ (f : ℕ × X). not (nat_lt f.0 n)) (e ∷ rows) ≡ e ∷ rows
    go true is more = rw is (ap (λ rest. e ∷ rest) more)
    go false is more =
        let none = keep_none (λ (f : ℕ × X). nat_lt f.0 n) rows (all_weaker (λ (f : ℕ × X). e.0 < f.0) (λ (f : ℕ × X). nat_lt f.0 n ≡ false) (λ f lt. grind (arith, nat_tests, is, lt)) rows up.0) in
        let all = keep_all (λ (f : ℕ × X). not (nat_lt f.0 n)) rows (all_weaker (λ (f : ℕ × X). e.0 < f.0) (λ (f : ℕ × X). not (nat_lt f.0 n) ≡ true) (λ f lt. grind (arith, nat_tests, is, lt)) rows up.0) in
        rw (is, none, all) refl

-- rows of which none has one of the numbers, from a look-up at each
pub free_rows : {X : Type 0} (first end : ℕ) (rows : List (ℕ × X)) → ((q : ℕ) → first ≤ q → q < end → is_some (row_at q rows) ≡ false) → AreFree first end rows
free_rows first end [] none = tt
free_rows {X} first end (e ∷ rows) none = (here (is_between first end e.0) refl, free_rows first end rows later)
  where
    itself : is_some (row_at e.0 (e ∷ rows)) ≡ true
    itself = grind (arith, nat_tests)

    first_le : is_between first end e.0 ≡ true → first ≤ e.0
    first_le is = grind (arith, nat_tests, is)

    below_end : is_between first end e.0 ≡ true → e.0 < end
    below_end is = grind (arith, nat_tests, is)

    true_false : true ≡ false → ⊥
    true_false p = cc

    here : (b : Bool) → is_between first end e.0 ≡ b → is_between first end e.0 ≡ false
    here true is = absurd (true_false (sym itself ∙ none e.0 (first_le is) (below_end is)))
    here false is = is

    later : (q : ℕ) → first ≤ q → q < end → is_some (row_at q rows) ≡ false
    later q le lt = go (e.0 == q) refl (none q le lt)
      where
        go : (b : Bool) → (e.0 == q) ≡ b → is_some (row_at q (e ∷ rows)) ≡ false → is_some (row_at q rows) ≡ false
        go true same no_row = absurd (true_false (sym (ap (λ b. is_some (if b then Some e.1 else row_at q rows)) same) ∙ no_row))
        go false apart no_row = sym (ap (λ b. is_some (if b then Some e.1 else row_at q rows)) apart) ∙ no_row

-- no row has a number that each lacks
row_none : {X : Type 0} (n : ℕ) (rows : List (ℕ × X)) → AllByRecursion (λ (e : ℕ × X). (e.0 == n) ≡ false) rows → is_some (row_at n rows) ≡ false
row_none n [] all = refl
row_none n (e ∷ rows) all = rw all.0 (row_none n rows all.1)

below_first : {X : Type 0} (first : ℕ) (rows : List (ℕ × X)) → AllByRecursion (λ (e : ℕ × X). nat_lt e.0 first ≡ true) (filter (λ (e : ℕ × X). nat_lt e.0 first) rows)
below_first {X} first rows = all_pass (λ (e : ℕ × X). nat_lt e.0 first) rows

-- of the rows that are not below a number none lies before an end below which there is none
beyond_end : {X : Type 0} (first end : ℕ) (rows : List (ℕ × X)) → AreFree first end rows → AllByRecursion (λ (e : ℕ × X). nat_lt e.0 end ≡ false) (filter (λ (e : ℕ × X). not (nat_lt e.0 first)) rows)
beyond_end {X} first end rows free = all_both (λ (e : ℕ × X). is_between first end e.0 ≡ false) (λ (e : ℕ × X). not (nat_lt e.0 first) ≡ true) (λ (e : ℕ × X). nat_lt e.0 end ≡ false) (λ e out high. grind (arith, nat_tests, out, high))
    (filter (λ (e : ℕ × X). not (nat_lt e.0 first)) rows)
    (all_filter (λ (e : ℕ × X). is_between first end e.0 ≡ false) (λ (e : ℕ × X). not (nat_lt e.0 first)) rows free)
    (all_pass (λ (e : ℕ × X). not (nat_lt e.0 first)) rows)

-- putting in the first of rows that follow one another, and then the others
pub one_on : {X : Type 0} (n : ℕ) (x : X) (more rows : List (ℕ × X)) → AreFree n (n + 1) rows → placed (λ (e : ℕ × X). e.0) (n + 1) more (placed_row n x rows) ≡ placed (λ (e : ℕ × X). e.0) n ((n, x) ∷ more) rows
one_on {X} n x more rows free =
    ap (λ (xs : List (ℕ × X)). xs ++ (more ++ filter (λ (e : ℕ × X). not (nat_lt e.0 (n + 1))) (front ++ ((n, x) ∷ back)))) low
    ∙ (ap (λ (ys : List (ℕ × X)). (front ++ (n, x) ∷ []) ++ (more ++ ys)) high ∙ append_assoc front ((n, x) ∷ []) (more ++ back))
  where
    front : List (ℕ × X)
    front = filter (λ (e : ℕ × X). nat_lt e.0 n) rows

    back : List (ℕ × X)
    back = filter (λ (e : ℕ × X). not (nat_lt e.0 n)) rows

    front_low : filter (λ (e : ℕ × X). nat_lt e.0 (n + 1)) front ≡ front
    front_low = keep_all (λ (e : ℕ × X). nat_lt e.0 (n + 1)) front (all_weaker (λ (e : ℕ × X). nat_lt e.0 n ≡ true) (λ (e : ℕ × X). nat_lt e.0 (n + 1) ≡ true) (λ e is. grind (arith, nat_tests, is)) front (below_first n rows))

    front_high : filter (λ (e : ℕ × X). not (nat_lt e.0 (n + 1))) front ≡ []
    front_high = keep_none (λ (e : ℕ × X). not (nat_lt e.0 (n + 1))) front (all_weaker (λ (e : ℕ × X). nat_lt e.0 n ≡ true) (λ (e : ℕ × X). not (nat_lt e.0 (n + 1)) ≡ false) (λ e is. grind (arith, nat_tests, is)) front (below_first n rows))

    back_low : filter (λ (e : ℕ × X). nat_lt e.0 (n + 1)) back ≡ []
    back_low = keep_none (λ (e : ℕ × X). nat_lt e.0 (n + 1)) back (beyond_end n (n + 1) rows free)

    back_high : filter (λ (e : ℕ × X). not (nat_lt e.0 (n + 1))) back ≡ back
    back_high = keep_all (λ (e : ℕ × X). not (nat_lt e.0 (n + 1))) back (all_weaker (λ (e : ℕ × X). nat_lt e.0 (n + 1) ≡ false) (λ (e : ℕ × X). not (nat_lt e.0 (n + 1)) ≡ true) (λ e is. ap not is) back (beyond_end n (n + 1) rows free))

    test : nat_lt n (n + 1) ≡ true
    test = grind (arith, nat_tests)

    one_low : filter (λ (e : ℕ × X). nat_lt e.0 (n + 1)) ((n, x) ∷ back) ≡ (n, x) ∷ []
    one_low = keep_first (λ (e : ℕ × X). nat_lt e.0 (n + 1)) (n, x) back test ∙ ap (λ (ys : List (ℕ × X)). (n, x) ∷ ys) back_low

    one_high : filter (λ (e : ℕ × X). not (nat_lt e.0 (n + 1))) ((n, x) ∷ back) ≡ back
    one_high = drop_first (λ (e : ℕ × X). not (nat_lt e.0 (n + 1))) (n, x) back (ap not test) ∙ back_high

    low : filter (λ (e : ℕ × X). nat_lt e.0 (n + 1)) (front ++ ((n, x) ∷ back)) ≡ front ++ (n, x) ∷ []
    low = filter-append (λ (e : ℕ × X). nat_lt e.0 (n + 1)) front ((n, x) ∷ back)
        ∙ (ap (λ (xs : List (ℕ × X)). xs ++ filter (λ (e : ℕ × X). nat_lt e.0 (n + 1)) ((n, x) ∷ back)) front_low ∙ ap (λ (ys : List (ℕ × X)). front ++ ys) one_low)

    high : filter (λ (e : ℕ × X). not (nat_lt e.0 (n + 1))) (front ++ ((n, x) ∷ back)) ≡ back
    high = filter-append (λ (e : ℕ × X). not (nat_lt e.0 (n + 1))) front ((n, x) ∷ back)
        ∙ (ap (λ (xs : List (ℕ × X)). xs ++ filter (λ (e : ℕ × X). not (nat_lt e.0 (n + 1))) ((n, x) ∷ back)) front_high ∙ one_high)

-- at the end none is left to be put in
pub none_on : {X : Type 0} (n : ℕ) (rows : List (ℕ × X)) → Ascend (λ (e : ℕ × X). e.0) rows → placed (λ (e : ℕ × X). e.0) n [] rows ≡ rows
none_on n rows up = parts n rows up

-- the next number is free
pub next_free : {X : Type 0} (n : ℕ) (rows : List (ℕ × X)) → AreFree n (n + 1) rows → is_some (row_at n rows) ≡ false
next_free {X} n rows free = row_none n rows (all_weaker (λ (e : ℕ × X). is_between n (n + 1) e.0 ≡ false) (λ (e : ℕ × X). (e.0 == n) ≡ false) (λ e is. grind (arith, nat_tests, is)) rows free)

-- the others are free behind it
pub still_free : {X : Type 0} (n end : ℕ) (x : X) (rows : List (ℕ × X)) → AreFree n end rows → AreFree (n + 1) end (placed_row n x rows)
still_free {X} n end x rows free = all_placed (λ (e : ℕ × X). is_between (n + 1) end e.0 ≡ false) (λ (e : ℕ × X). e.0) n ((n, x) ∷ []) rows
    (all_weaker (λ (e : ℕ × X). is_between n end e.0 ≡ false) (λ (e : ℕ × X). is_between (n + 1) end e.0 ≡ false) (λ e is. grind (arith, nat_tests, is)) rows free)
    (grind (arith, nat_tests), tt)

pub fewer_free : {X : Type 0} (n end : ℕ) (rows : List (ℕ × X)) → n < end → AreFree n end rows → AreFree n (n + 1) rows
fewer_free {X} n end rows lt free = all_weaker (λ (e : ℕ × X). is_between n end e.0 ≡ false) (λ (e : ℕ × X). is_between n (n + 1) e.0 ≡ false) (λ e is. grind (arith, nat_tests, is, lt)) rows free

-- taken out again, the rows are as they were
pub back_again : {X : Type 0} (first n : ℕ) (x : X) (rows : List (ℕ × X)) → first ≤ n → Ascend (λ (e : ℕ × X). e.0) rows → AreFree n (n + 1) rows → filter (λ (e : ℕ × X). not (is_between first (n + 1) e.0)) (placed_row n x rows) ≡ filter (λ (e : ℕ × X). not (is_between first n e.0)) rows
back_again {X} first n x rows le up free =
    filter-append out front ((n, x) ∷ back)
    ∙ (ap (λ (ys : List (ℕ × X)). filter out front ++ ys) here
    ∙ (sym (filter-append out front back) ∙ (ap (filter out) (parts n rows up) ∙ same rows free)))
  where
    front : List (ℕ × X)
    front = filter (λ (e : ℕ × X). nat_lt e.0 n) rows

    back : List (ℕ × X)
    back = filter (λ (e : ℕ × X). not (nat_lt e.0 n)) rows

    out : ℕ × X → Bool
    out e = not (is_between first (n + 1) e.0)

    inside : is_between first (n + 1) n ≡ true
    inside = grind (arith, nat_tests, le)

    here : filter out ((n, x) ∷ back) ≡ filter out back
    here = drop_first out (n, x) back (ap not inside)

    agrees : (k : ℕ) → is_between n (n + 1) k ≡ false → is_between first (n + 1) k ≡ is_between first n k
    agrees k apart = cases (nat_lt k n) refl (nat_lt k (n + 1)) refl
      where
        cases : (a : Bool) → nat_lt k n ≡ a → (b : Bool) → nat_lt k (n + 1) ≡ b → is_between first (n + 1) k ≡ is_between first n k
        cases true lt b is = grind (arith, nat_tests, lt, is)
        cases false ge true lt = grind (arith, nat_tests, ge, lt, apart)
        cases false ge false gt = grind (arith, nat_tests, ge, gt)

    same : (more : List (ℕ × X)) → AreFree n (n + 1) more → filter out more ≡ filter (λ (e : ℕ × X). not (is_between first n e.0)) more
    same [] none = refl
    same (e ∷ more) none = go (is_between first n e.0) refl (same more none.1)
      where
        go : (b : Bool) → is_between first n e.0 ≡ b → filter out more ≡ filter (λ (f : ℕ × X). not (is_between first n f.0)) more → filter out (e ∷ more) ≡ filter (λ (f : ℕ × X). not (is_between first n f.0)) (e ∷ more)
        go true is rest = drop_first out e more (ap not (agrees e.0 none.0 ∙ is)) ∙ (rest ∙ sym (drop_first (λ (f : ℕ × X). not (is_between first n f.0)) e more (ap not is)))
        go false is rest = keep_first out e more (ap not (agrees e.0 none.0 ∙ is)) ∙ (ap (λ (ys : List (ℕ × X)). e ∷ ys) rest ∙ sym (keep_first (λ (f : ℕ × X). not (is_between first n f.0)) e more (ap not is)))

-- none of no numbers is taken out, and then one more at a time
pub none_between : {X : Type 0} (first : ℕ) (rows : List (ℕ × X)) → filter (λ (e : ℕ × X). not (is_between first first e.0)) rows ≡ rows
none_between first [] = refl
none_between first (e ∷ rows) = grind (arith, nat_tests, none_between first rows)

pub one_less : {X : Type 0} (first number : ℕ) (rows : List (ℕ × X)) → first ≤ number → without_row number (filter (λ (e : ℕ × X). not (is_between first number e.0)) rows) ≡ filter (λ (e : ℕ × X). not (is_between first (number + 1) e.0)) rows
one_less first number [] le = refl
one_less {X} first number (e ∷ rows) le = go (nat_lt e.0 first) refl (nat_lt e.0 number) refl (e.0 == number) refl (one_less first number rows le)
  where
    go : (a : Bool) → nat_lt e.0 first ≡ a → (b : Bool) → nat_lt e.0 number ≡ b → (c : Bool) → (e.0 == number) ≡ c → without_row number (filter (λ (f : ℕ × X). not (is_between first number f.0)) rows) ≡ filter (λ (f : ℕ × X). not (is_between first (number + 1) f.0)) rows → without_row number (filter (λ (f : ℕ × X). not (is_between first number f.0)) (e ∷ rows)) ≡ filter (λ (f : ℕ × X). not (is_between first (number + 1) f.0)) (e ∷ rows)
    go a low b before c same more = grind (arith, nat_tests, low, before, same, le, more)

-- one number more from a first one on
between_more : (first m n : ℕ) → first ≤ m → is_between first (m + 1) n ≡ ((n == m) || is_between first m n)
between_more first m n le = cases (nat_lt n first) refl (nat_lt n m) refl (n == m) refl
  where
    cases : (a : Bool) → nat_lt n first ≡ a → (b : Bool) → nat_lt n m ≡ b → (c : Bool) → (n == m) ≡ c → is_between first (m + 1) n ≡ ((n == m) || is_between first m n)
    cases a low b before c same = grind (arith, nat_tests, low, before, same, le)

none_from : (first n : ℕ) → is_between first first n ≡ false
none_from first n = grind (arith, nat_tests)

-- no number has come yet
pub notes_none : (key first : ℕ) (marks : List Mark) → NotesFrom key first first marks marks
notes_none key first marks k n = rw (none_from first n) (go (names k (Some key)))
  where
    go : (s : Bool) → is_marked k n marks ≡ ((s && false) || is_marked k n marks)
    go true = refl
    go false = refl

pub forgets_none : (key first : ℕ) (marks : List Mark) → ForgetsFrom key first first marks marks
forgets_none key first marks k n = rw (none_from first n) (go (names k (Some key)))
  where
    go : (s : Bool) → is_marked k n marks ≡ (not (s && false) && is_marked k n marks)
    go true = refl
    go false = refl

-- and then one more
pub notes_more : (key first m : ℕ) (before marks after : List Mark) → first ≤ m → NotesFrom key first m before marks → Notes (Some key) m marks after → NotesFrom key first (m + 1) before after
notes_more key first m before marks after le so_far one k n = one k n ∙ rw (so_far k n, between_more first m n le) (go (names k (Some key)) (n == m) (is_between first m n) (is_marked k n before))
  where
    go : (s e b a : Bool) → ((s && e) || ((s && b) || a)) ≡ ((s && (e || b)) || a)
    go true true b a = refl
    go true false b a = refl
    go false e b a = refl

pub forgets_more : (key first m : ℕ) (before marks after : List Mark) → first ≤ m → ForgetsFrom key first m before marks → Forgets (Some key) m marks after → ForgetsFrom key first (m + 1) before after
forgets_more key first m before marks after le so_far one k n = one k n ∙ rw (so_far k n, between_more first m n le) (go (names k (Some key)) (n == m) (is_between first m n) (is_marked k n before))
  where
    go : (s e b a : Bool) → (not (s && e) && (not (s && b) && a)) ≡ (not (s && (e || b)) && a)
    go true true b a = refl
    go true false b a = refl
    go false e b a = refl

-- taken back, the marks of a key that had none are as they were
pub all_undone : (key first end : ℕ) (before between after : List Mark) → ((n : ℕ) → is_marked key n before ≡ false) → NotesFrom key first end before between → ForgetsFrom key first end between after → IsSame before after
all_undone key first end before between after unused notes forgets k n = forgets k n ∙ rw (notes k n) (go (names k (Some key)) refl)
  where
    same_key : names k (Some key) ≡ true → key ≡ k
    same_key is = grind (arith, nat_tests, is)

    go : (s : Bool) → names k (Some key) ≡ s → (not (names k (Some key) && is_between first end n) && ((names k (Some key) && is_between first end n) || is_marked k n before)) ≡ is_marked k n before
    go true is =
        let none : is_marked k n before ≡ false = ap (λ j. is_marked j n before) (sym (same_key is)) ∙ unused n in
        rw (is, none) (here (is_between first end n))
      where
        here : (b : Bool) → (not (true && b) && ((true && b) || false)) ≡ false
        here true = refl
        here false = refl
    go false is = rw is refl

-- a look-up in two lists
row_joined : {X : Type 0} (q : ℕ) (xs ys : List (ℕ × X)) → row_at q (xs ++ ys) ≡ (if is_some (row_at q xs) then row_at q xs else row_at q ys)
row_joined q [] ys = refl
row_joined {X} q (x ∷ xs) ys = go (x.0 == q) refl (row_joined q xs ys)
  where
    go : (b : Bool) → (x.0 == q) ≡ b → row_at q (xs ++ ys) ≡ (if is_some (row_at q xs) then row_at q xs else row_at q ys) → row_at q ((x ∷ xs) ++ ys) ≡ (if is_some (row_at q (x ∷ xs)) then row_at q (x ∷ xs) else row_at q ys)
    go true is more = rw is refl
    go false is more = rw is more

-- rows numbered from one on lie between
pub numbered_between : {X : Type 0} (first : ℕ) (xs : List X) → AllByRecursion (λ (e : ℕ × X). (first ≤ e.0) × (e.0 < first + length xs)) (from_number first xs)
numbered_between first [] = tt
numbered_between {X} first (x ∷ xs) = ((omega arith, omega arith), all_weaker (λ (e : ℕ × X). (first + 1 ≤ e.0) × (e.0 < first + 1 + length xs)) (λ (e : ℕ × X). (first ≤ e.0) × (e.0 < first + length (x ∷ xs))) (λ e is. (omega (arith, is.0), omega (arith, is.1))) (from_number (first + 1) xs) (numbered_between (first + 1) xs))

not_found : {X : Type 0} (q : ℕ) (rows : List (ℕ × X)) → AllByRecursion (λ (e : ℕ × X). (e.0 == q) ≡ false) rows → row_at q rows ≡ None
not_found q [] all = refl
not_found q (e ∷ rows) all = rw all.0 (not_found q rows all.1)

-- what is found among rows with others put in between
pub placed_found : {X : Type 0} (first end : ℕ) (more rows : List (ℕ × X)) → Ascend (λ (e : ℕ × X). e.0) rows → AreFree first end rows → AllByRecursion (λ (e : ℕ × X). (first ≤ e.0) × (e.0 < end)) more → (q : ℕ) → row_at q (placed (λ (e : ℕ × X). e.0) first more rows) ≡ (if is_between first end q then row_at q more else row_at q rows)
placed_found {X} first end more rows up free lie q = row_joined q front (more ++ back) ∙ go (is_between first end q) refl
  where
    front : List (ℕ × X)
    front = filter (λ (e : ℕ × X). nat_lt e.0 first) rows

    back : List (ℕ × X)
    back = filter (λ (e : ℕ × X). not (nat_lt e.0 first)) rows

    apart : is_between first end q ≡ true → AllByRecursion (λ (e : ℕ × X). (e.0 == q) ≡ false) rows
    apart inside = all_weaker (λ (e : ℕ × X). is_between first end e.0 ≡ false) (λ (e : ℕ × X). (e.0 == q) ≡ false) (λ e out. differs e.0 out) rows free
      where
        differs : (n : ℕ) → is_between first end n ≡ false → (n == q) ≡ false
        differs n out = cases (n == q) refl
          where
            cases : (b : Bool) → (n == q) ≡ b → (n == q) ≡ false
            cases true same = absurd (clash (sym inside ∙ (ap (is_between first end) (sym (equal n q same)) ∙ out)))
              where
                clash : true ≡ false → ⊥
                clash p = cc

                equal : (a b : ℕ) → (a == b) ≡ true → a ≡ b
                equal a b p = grind (arith, nat_tests, p)
            cases false other = other

    nobody : is_between first end q ≡ false → AllByRecursion (λ (e : ℕ × X). (e.0 == q) ≡ false) more
    nobody outside = all_weaker (λ (e : ℕ × X). (first ≤ e.0) × (e.0 < end)) (λ (e : ℕ × X). (e.0 == q) ≡ false) (λ e is. grind (arith, nat_tests, outside, is.0, is.1)) more lie

    or_none : (r : Option X) → (if is_some r then r else None) ≡ r
    or_none None = refl
    or_none (Some x) = refl

    go : (b : Bool) → is_between first end q ≡ b → (if is_some (row_at q front) then row_at q front else row_at q (more ++ back)) ≡ (if is_between first end q then row_at q more else row_at q rows)
    go true inside =
        let low = not_found q front (all_filter (λ (e : ℕ × X). (e.0 == q) ≡ false) (λ (e : ℕ × X). nat_lt e.0 first) rows (apart inside)) in
        let high = not_found q back (all_filter (λ (e : ℕ × X). (e.0 == q) ≡ false) (λ (e : ℕ × X). not (nat_lt e.0 first)) rows (apart inside)) in
        rw (low, inside) (row_joined q more back ∙ rw high (or_none (row_at q more)))
    go false outside =
        let mid : row_at q (more ++ back) ≡ row_at q back = row_joined q more back ∙ rw (not_found q more (nobody outside)) refl in
        rw (mid, outside) (sym (row_joined q front back) ∙ ap (row_at q) (parts first rows up))
