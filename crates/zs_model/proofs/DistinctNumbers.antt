-- A list in which no number and no text stands twice.
use Rattle.std.proofs.Common.{◌≡◌, ℕ, List, [], ◌∷◌, Bool, true, false, Some, None, refl, sym, ◌∙◌, ap, arith, cond}
use Rattle.std.specs.Prelude.{◌==◌, nat_lt, filter, if◌then◌else◌}
use Rattle.std.specs.List.{AllByRecursion}
use Rattle.std.specs.Str.{bytes_eq}
use Rattle.std.proofs.lemmas.Bool.{eqb-true}
use Rattle.std.proofs.lemmas.Bool.Decides.{nat_tests}
use Rattle.std.proofs.lemmas.Slice.Eq.{bytes_eq-Decides}
use Rattle.zs_keys.specs.Key.{Key as a_key}
use Rattle.zs_subscriptions.specs.Numbers.{NumberedKey, key_at, number_at, placed}

-- another number and another text
abbrev pub Differ : NumberedKey → NumberedKey → Type 0
Differ row other = ((row.number == other.number) ≡ false) × (bytes_eq row.key.text other.key.text ≡ false)

-- no number and no text is there twice
abbrev pub Once : List NumberedKey → Type 0
Once [] = Unit {0}
Once (row ∷ rows) = AllByRecursion (λ other. Differ row other) rows × Once rows

pub bytes_eq-same : (xs : List ℕ) → bytes_eq xs xs ≡ true
bytes_eq-same xs = (bytes_eq-Decides xs xs).1 refl

bytes_eq-swap : (xs ys : List ℕ) → bytes_eq xs ys ≡ false → bytes_eq ys xs ≡ false
bytes_eq-swap xs ys other = go (bytes_eq ys xs) refl
  where
    go : (b : Bool) → bytes_eq ys xs ≡ b → b ≡ false
    go true e =
        let same : ys ≡ xs = (bytes_eq-Decides ys xs).0 e in
        let no : true ≡ false = sym (bytes_eq-same xs) ∙ ap (bytes_eq xs) (sym same) ∙ other in cc
    go false e = refl

-- a row that stands for another number and another text than each of these
pub apart : (new : NumberedKey) (rows : List NumberedKey) → key_at new.number rows ≡ None → number_at new.key.text rows ≡ None
    → AllByRecursion (λ row. Differ row new × Differ new row) rows
apart new [] at text = tt
apart new (row ∷ rows) at text = go (row.number == new.number) refl (bytes_eq row.key.text new.key.text) refl at text (apart new rows)
  where
    go : (n : Bool) → (row.number == new.number) ≡ n → (t : Bool) → bytes_eq row.key.text new.key.text ≡ t
        → (if n then Some row.key else key_at new.number rows) ≡ None → (if t then Some row.number else number_at new.key.text rows) ≡ None
        → (key_at new.number rows ≡ None → number_at new.key.text rows ≡ None → AllByRecursion (λ row. Differ row new × Differ new row) rows)
        → AllByRecursion (λ row. Differ row new × Differ new row) (row ∷ rows)
    go true n t e at text ih = cc
    go false n true e at text ih = cc
    go false n false e at text ih =
        let back : (new.number == row.number) ≡ false = grind (arith, nat_tests, n) in
        (((n, e), (back, bytes_eq-swap row.key.text new.key.text e)), ih at text)

-- what holds of a new row and of the others holds of all of them
pub placed-all : (P : NumberedKey → Type 0) (new : NumberedKey) (rows : List NumberedKey) → P new → AllByRecursion P rows → AllByRecursion P (placed new rows)
placed-all P new [] one all = (one, tt)
placed-all P new (row ∷ rows) one all = go (row.number == new.number) (nat_lt new.number row.number) (placed-all P new rows one all.1)
  where
    go : (same less : Bool) → AllByRecursion P (placed new rows)
        → AllByRecursion P (if same then new ∷ rows else if less then new ∷ row ∷ rows else row ∷ placed new rows)
    go true less ih = (one, all.1)
    go false true ih = (one, all)
    go false false ih = (all.0, ih)

-- a new row that is apart from all others keeps them apart
pub once-placed : (new : NumberedKey) (rows : List NumberedKey) → AllByRecursion (λ row. Differ row new × Differ new row) rows → Once rows → Once (placed new rows)
once-placed new [] away once = (tt, tt)
once-placed new (row ∷ rows) away once = go (row.number == new.number) refl (nat_lt new.number row.number) (once-placed new rows away.1 once.1)
  where
    news : (xs : List NumberedKey) → AllByRecursion (λ x. Differ x new × Differ new x) xs → AllByRecursion (λ other. Differ new other) xs
    news [] all = tt
    news (x ∷ xs) all = (all.0.1, news xs all.1)

    go : (same : Bool) → (row.number == new.number) ≡ same → (less : Bool) → Once (placed new rows)
        → Once (if same then new ∷ rows else if less then new ∷ row ∷ rows else row ∷ placed new rows)
    go true same less ih = let no : true ≡ false = sym same ∙ away.0.0.0 in cc
    go false same true ih = (news (row ∷ rows) away, once)
    go false same false ih = (placed-all (λ other. Differ row other) new rows away.0.0 once.0, ih)

pub once-without : (p : NumberedKey → Bool) (rows : List NumberedKey) → Once rows → Once (filter p rows)
once-without p [] once = tt
once-without p (row ∷ rows) once = go (p row) (once-without p rows once.1)
  where
    left : (xs : List NumberedKey) → AllByRecursion (λ other. Differ row other) xs → AllByRecursion (λ other. Differ row other) (filter p xs)
    left [] all = tt
    left (x ∷ xs) all = pick (p x) (left xs all.1)
      where
        pick : (b : Bool) → AllByRecursion (λ other. Differ row other) (filter p xs) → AllByRecursion (λ other. Differ row other) (cond b (x ∷ filter p xs) (filter p xs))
        pick true rest = (all.0, rest)
        pick false rest = rest

    go : (b : Bool) → Once (filter p rows) → Once (cond b (row ∷ filter p rows) (filter p rows))
    go true rest = (left rows once.0, rest)
    go false rest = rest

-- the number of a known key is found by its text
pub found_again : (n : ℕ) (rows : List NumberedKey) (key : a_key) → Once rows → key_at n rows ≡ Some key → number_at key.text rows ≡ Some n
found_again n [] key once at = cc
found_again n (row ∷ rows) key once at = go (row.number == n) refl at (found_again n rows key once.1)
  where
    differs : (xs : List NumberedKey) → AllByRecursion (λ other. Differ row other) xs → key_at n xs ≡ Some key → bytes_eq row.key.text key.text ≡ false
    differs [] all at = cc
    differs (x ∷ xs) all at = pick (x.number == n) at (differs xs all.1)
      where
        pick : (b : Bool) → (if b then Some x.key else key_at n xs) ≡ Some key → (key_at n xs ≡ Some key → bytes_eq row.key.text key.text ≡ false)
            → bytes_eq row.key.text key.text ≡ false
        pick true at ih = let same : x.key ≡ key = cc in ap (λ (k : a_key). bytes_eq row.key.text k.text) (sym same) ∙ all.0.1
        pick false at ih = ih at

    go : (b : Bool) → (row.number == n) ≡ b → (if b then Some row.key else key_at n rows) ≡ Some key
        → (key_at n rows ≡ Some key → number_at key.text rows ≡ Some n)
        → (if bytes_eq row.key.text key.text then Some row.number else number_at key.text rows) ≡ Some n
    go true e at ih =
        let same : row.key ≡ key = cc in
        let text : bytes_eq row.key.text key.text ≡ true = ap (λ (k : a_key). bytes_eq row.key.text k.text) (sym same) ∙ bytes_eq-same row.key.text in
        rw text (ap (λ (i : ℕ). Some i) (eqb-true row.number n e))
    go false e at ih = rw (differs rows once.0 at) (ih at)

-- a number that is found for a text is not that of a row which differs from all
other_number : (text : List ℕ) (row : NumberedKey) (xs : List NumberedKey) (m : ℕ) → AllByRecursion (λ x. Differ row x) xs → number_at text xs ≡ Some m
    → (row.number == m) ≡ false
other_number text row [] m all found = cc
other_number text row (x ∷ xs) m all found = go (bytes_eq x.key.text text) found (other_number text row xs m all.1)
  where
    go : (b : Bool) → (if b then Some x.number else number_at text xs) ≡ Some m → (number_at text xs ≡ Some m → (row.number == m) ≡ false)
        → (row.number == m) ≡ false
    go true e ih = let same : x.number ≡ m = cc in ap (λ (i : ℕ). row.number == i) (sym same) ∙ all.0.0
    go false e ih = ih e

-- a text that a number is found for is that of the number's key
pub named_again : (text : List ℕ) (rows : List NumberedKey) (n : ℕ) → Once rows → number_at text rows ≡ Some n
    → (key : a_key) × (key_at n rows ≡ Some key) × (bytes_eq key.text text ≡ true)
named_again text [] n once h = cc
named_again text (row ∷ rows) n once h = go (bytes_eq row.key.text text) refl h (named_again text rows n once.1)
  where
    go : (b : Bool) → bytes_eq row.key.text text ≡ b → (if b then Some row.number else number_at text rows) ≡ Some n
        → (number_at text rows ≡ Some n → (key : a_key) × (key_at n rows ≡ Some key) × (bytes_eq key.text text ≡ true))
        → (key : a_key) × (key_at n (row ∷ rows) ≡ Some key) × (bytes_eq key.text text ≡ true)
    go true t found ih =
        let same : row.number ≡ n = cc in
        let here : (row.number == n) ≡ true = grind (arith, nat_tests, same) in
        (row.key, ap (λ (b : Bool). if b then Some row.key else key_at n rows) here, t)
    go false t found ih =
        let rest = ih found in
        (rest.0, ap (λ (b : Bool). if b then Some row.key else key_at n rows) (other_number text row rows n once.0 found) ∙ rest.1, rest.2)
