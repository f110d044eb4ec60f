-- Entries in the order of their numbers.
use Rattle.std.proofs.Common.{◌≡◌, ◌≢◌, ℕ, zero, suc, ◌+◌, ◌<◌, ◌≤◌, Bool, true, false, List, [], ◌∷◌, ◌++◌, length, get_or, refl, sym, ◌∙◌, ap, arith}
use Rattle.std.specs.Prelude.{◌||◌, nat_lt, filter}
use Rattle.std.specs.List.{AllByRecursion, list_any, insert, remove}
use Rattle.std.proofs.lemmas.Bool.Decides.{nat_tests}
use Rattle.zs_tree.specs.Rows.{Row, placed}
use Rattle.zs_tree.specs.Entries.{by_number}
use Rattle.zs_tree.proofs.Bools.{split}

-- rows may be placed in any order
pub placed_comm : (a b : Row) (rows : List Row) → a.id ≢ b.id → placed a (placed b rows) ≡ placed b (placed a rows)
placed_comm a b [] h =
    split (nat_lt a.id b.id)
    (λ l. let k : nat_lt b.id a.id ≡ false = grind (arith, nat_tests, l) in rw (l, k) refl)
    (λ l. let k : nat_lt b.id a.id ≡ true = grind (arith, nat_tests, l, h) in rw (l, k) refl)
placed_comm a b (row ∷ rows) h =
    let ih = placed_comm a b rows h in
    split (nat_lt a.id row.id)
    (λ p. split (nat_lt b.id row.id)
    (λ q. split (nat_lt a.id b.id)
    (λ l. let k : nat_lt b.id a.id ≡ false = grind (arith, nat_tests, l) in rw (p, q, l, k) refl)
    (λ l. let k : nat_lt b.id a.id ≡ true = grind (arith, nat_tests, l, h) in rw (p, q, l, k, p) refl))
    (λ q. let k : nat_lt b.id a.id ≡ false = grind (arith, nat_tests, p, q) in rw (p, q, k, p) refl))
    (λ p. split (nat_lt b.id row.id)
    (λ q. let k : nat_lt a.id b.id ≡ false = grind (arith, nat_tests, p, q) in rw (p, q, k, p) refl)
    (λ q. rw (p, q, p) (ap (λ (rest : List Row). row ∷ rest) ih)))

-- all rows have other numbers
abbrev pub IsNew : ℕ → List Row → Type 0
IsNew id rows = AllByRecursion (λ row. row.id ≢ id) rows

-- a row that stands anywhere is placed
pub number_insert : (new : Row) (rows : List Row) (at : ℕ) → IsNew new.id rows → at ≤ length rows
    → by_number (insert rows at new) ≡ placed new (by_number rows)
number_insert new rows zero h le = refl
number_insert new [] (suc at) h le = absurd (omega arith)
number_insert new (row ∷ rows) (suc at) h le =
    ap (placed row) (number_insert new rows at h.1 (omega arith)) ∙ placed_comm row new (by_number rows) h.0

-- what holds of all rows holds of them in another order
pub all_placed : (P : Row → Type 0) (new : Row) (rows : List Row) → P new → AllByRecursion P rows → AllByRecursion P (placed new rows)
all_placed P new [] h all = (h, tt)
all_placed P new (row ∷ rows) h all =
    let ih = all_placed P new rows h all.1 in
    split (nat_lt new.id row.id) (λ l. rw l (h, all)) (λ l. rw l (all.0, ih))

pub all_number : (P : Row → Type 0) (rows : List Row) → AllByRecursion P rows → AllByRecursion P (by_number rows)
all_number P [] h = tt
all_number P (row ∷ rows) h = all_placed P row (by_number rows) h.0 (all_number P rows h.1)

all_unplaced : (P : Row → Type 0) (new : Row) (rows : List Row) → AllByRecursion P (placed new rows) → P new × AllByRecursion P rows
all_unplaced P new [] h = (h.0, tt)
all_unplaced P new (row ∷ rows) h =
    split (nat_lt new.id row.id)
    (λ l. let k = rw l at h in (k.0, k.1))
    (λ l. let k = rw l at h in let (first, rest) = all_unplaced P new rows k.1 in (first, (k.0, rest)))

pub all_unnumber : (P : Row → Type 0) (rows : List Row) → AllByRecursion P (by_number rows) → AllByRecursion P rows
all_unnumber P [] h = tt
all_unnumber P (row ∷ rows) h =
    let (first, rest) = all_unplaced P row (by_number rows) h in (first, all_unnumber P rows rest)

or_swap : (a b d : Bool) → (a || (b || d)) ≡ (b || (a || d))
or_swap true true d = refl
or_swap true false d = refl
or_swap false b d = refl

any_placed : (p : Row → Bool) (new : Row) (rows : List Row) → list_any p (placed new rows) ≡ (p new || list_any p rows)
any_placed p new [] = refl
any_placed p new (row ∷ rows) =
    let ih = any_placed p new rows in
    split (nat_lt new.id row.id) (λ l. rw l refl) (λ l. rw (l, ih) (or_swap (p row) (p new) (list_any p rows)))

pub any_number : (p : Row → Bool) (rows : List Row) → list_any p (by_number rows) ≡ list_any p rows
any_number p [] = refl
any_number p (row ∷ rows) = any_placed p row (by_number rows) ∙ rw (any_number p rows) refl

-- a row that fails is left out wherever it stands
filter_unplaced : (q : Row → Bool) (new : Row) (rows : List Row) → q new ≡ false → filter q (placed new rows) ≡ filter q rows
filter_unplaced q new [] h = rw h refl
filter_unplaced q new (row ∷ rows) h =
    let ih = filter_unplaced q new rows h in
    split (nat_lt new.id row.id) (λ l. rw (l, h) refl) (λ l. split (q row) (λ k. rw (l, k, ih) refl) (λ k. rw (l, k, ih) refl))

pub filter_all : (q : Row → Bool) (rows : List Row) → AllByRecursion (λ row. q row ≡ true) rows → filter q rows ≡ rows
filter_all q [] h = refl
filter_all q (row ∷ rows) h = rw h.0 (ap (λ (rest : List Row). row ∷ rest) (filter_all q rows h.1))

-- the numbers do not fall
abbrev pub RowsAscend : List Row → Type 0
RowsAscend [] = Unit {0}
RowsAscend (row ∷ rows) = AllByRecursion (λ later. row.id ≤ later.id) rows × RowsAscend rows

all_more : (P Q : Row → Type 0) (more : (row : Row) → P row → Q row) (rows : List Row) → AllByRecursion P rows → AllByRecursion Q rows
all_more P Q more [] h = tt
all_more P Q more (row ∷ rows) h = (more row h.0, all_more P Q more rows h.1)

all_filter : (P : Row → Type 0) (q : Row → Bool) (rows : List Row) → AllByRecursion P rows → AllByRecursion P (filter q rows)
all_filter P q [] h = tt
all_filter P q (row ∷ rows) h =
    let ih = all_filter P q rows h.1 in
    split (q row) (λ k. rw k (h.0, ih)) (λ k. rw k ih)

order_placed : (new : Row) (rows : List Row) → RowsAscend rows → RowsAscend (placed new rows)
order_placed new [] up = (tt, tt)
order_placed new (row ∷ rows) up =
    let ih = order_placed new rows up.1 in
    split (nat_lt new.id row.id)
    (λ l.
    let lt : new.id < row.id = grind (arith, nat_tests, l) in
    rw l ((omega (arith, lt), all_more (λ (later : Row). row.id ≤ later.id) (λ (later : Row). new.id ≤ later.id) (λ later le. omega (arith, lt, le)) rows up.0), up))
    (λ l.
    let le : row.id ≤ new.id = grind (arith, nat_tests, l) in
    rw l (all_placed (λ (later : Row). row.id ≤ later.id) new rows le up.0, ih))

pub number_order : (rows : List Row) → RowsAscend (by_number rows)
number_order [] = tt
number_order (row ∷ rows) = order_placed row (by_number rows) (number_order rows)

placed_front : (new : Row) (rows : List Row) → AllByRecursion (λ row. new.id < row.id) rows → placed new rows ≡ new ∷ rows
placed_front new [] h = refl
placed_front new (row ∷ rows) h = let l : nat_lt new.id row.id ≡ true = grind (arith, nat_tests, h.0) in rw l refl

-- a row that passes is placed among those that pass
filter_placed : (q : Row → Bool) (new : Row) (rows : List Row) → q new ≡ true → RowsAscend rows
    → filter q (placed new rows) ≡ placed new (filter q rows)
filter_placed q new [] h up = rw h refl
filter_placed q new (row ∷ rows) h up =
    let ih = filter_placed q new rows h up.1 in
    split (nat_lt new.id row.id)
    (λ l.
    let lt : new.id < row.id = grind (arith, nat_tests, l) in
    let above : AllByRecursion (λ (later : Row). new.id < later.id) (row ∷ rows) =
    (lt, all_more (λ (later : Row). row.id ≤ later.id) (λ (later : Row). new.id < later.id) (λ later le. omega (arith, lt, le)) rows up.0) in
    rw (l, h) (sym (placed_front new (filter q (row ∷ rows)) (all_filter (λ (later : Row). new.id < later.id) q (row ∷ rows) above))))
    (λ l. split (q row) (λ k. rw (l, k, l) (ap (λ (rest : List Row). row ∷ rest) ih)) (λ k. rw (l, k) ih))

-- a test keeps the order
pub filter_number : (q : Row → Bool) (rows : List Row) → filter q (by_number rows) ≡ by_number (filter q rows)
filter_number q [] = refl
filter_number q (row ∷ rows) =
    let ih = filter_number q rows in
    split (q row)
    (λ k. filter_placed q row (by_number rows) k (number_order rows) ∙ rw k (ap (placed row) ih))
    (λ k. filter_unplaced q row (by_number rows) k ∙ rw k ih)

-- the only row that fails is taken out at its place
filter_removed : (q : Row → Bool) (rows : List Row) (at : ℕ) (d : Row) → at < length rows → q (get_or rows at d) ≡ false
    → AllByRecursion (λ row. q row ≡ true) (remove rows at) → filter q rows ≡ remove rows at
filter_removed q [] at d lt out all = absurd (omega arith)
filter_removed q (row ∷ rows) zero d lt out all = rw out (filter_all q rows all)
filter_removed q (row ∷ rows) (suc at) d lt out all =
    rw all.0 (ap (λ (rest : List Row). row ∷ rest) (filter_removed q rows at d (omega arith) out all.1))

pub number_remove : (q : Row → Bool) (rows : List Row) (at : ℕ) (d : Row) → at < length rows → q (get_or rows at d) ≡ false
    → AllByRecursion (λ row. q row ≡ true) (remove rows at) → filter q (by_number rows) ≡ by_number (remove rows at)
number_remove q rows at d lt out all = filter_number q rows ∙ ap by_number (filter_removed q rows at d lt out all)
