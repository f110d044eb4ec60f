-- Lists of numbers with keys and with holders: what is found in them once one more stands there, or one less.
use Rattle.std.proofs.Common.{◌≡◌, ◌+◌, ◌-◌, ℕ, List, [], ◌∷◌, ◌++◌, Bool, true, false, Some, None, refl, sym, ◌∙◌, ap, arith, map, cond}
use Rattle.std.specs.Prelude.{◌==◌, ◌&&◌, ◌||◌, not, filter, is_some, if◌then◌else◌}
use Rattle.std.specs.Str.{bytes_eq}
use Rattle.std.proofs.lemmas.Bool.{eqb-true}
use Rattle.std.proofs.lemmas.Bool.Decides.{nat_tests}
use Rattle.zs_subscriptions.specs.Numbers.{NumberedKey, key_at, number_at, placed, without}
use Rattle.zs_entity_tables.specs.declared.declared_key.KeyHolders.{KeyHolders}
use Rattle.zs_entity_tables.specs.DeclaredKeys.{holders_of, has_holder, one_more, one_less, raised, is_last, lowered}

one_more-number : (m : ℕ) (row : KeyHolders) → (one_more m row).number ≡ row.number
one_more-number m row = go (row.number == m)
  where
    go : (b : Bool) → (cond b (record row { count = row.count + 1 }) row).number ≡ row.number
    go true = refl
    go false = refl

one_more-count : (m : ℕ) (row : KeyHolders) → (one_more m row).count ≡ (if row.number == m then row.count + 1 else row.count)
one_more-count m row = go (row.number == m)
  where
    go : (b : Bool) → (cond b (record row { count = row.count + 1 }) row).count ≡ (if b then row.count + 1 else row.count)
    go true = refl
    go false = refl

pub has_holder-raised : (n m : ℕ) (rows : List KeyHolders) → has_holder n (raised m rows) ≡ ((m == n) || has_holder n rows)
has_holder-raised n m rows = go (has_holder m rows) refl
  where
    same : (xs : List KeyHolders) → has_holder n (map (one_more m) xs) ≡ has_holder n xs
    same [] = refl
    same (x ∷ xs) = grind (arith, nat_tests, same xs)

    found : (xs : List KeyHolders) → has_holder m xs ≡ true → has_holder n xs ≡ ((m == n) || has_holder n xs)
    found [] h = cc
    found (x ∷ xs) h = grind (arith, nat_tests, h, found xs)

    pushed : (xs : List KeyHolders) → has_holder n (xs ++ record { number = m; count = 1 } ∷ []) ≡ ((m == n) || has_holder n xs)
    pushed [] = grind (arith, nat_tests)
    pushed (x ∷ xs) = grind (arith, nat_tests, pushed xs)

    go : (b : Bool) → has_holder m rows ≡ b → has_holder n (cond b (map (one_more m) rows) (rows ++ record { number = m; count = 1 } ∷ [])) ≡ ((m == n) || has_holder n rows)
    go true e = same rows ∙ found rows e
    go false e = pushed rows

pub holders_of-raised : (n m : ℕ) (rows : List KeyHolders) → holders_of n (raised m rows) ≡ (if m == n then holders_of n rows + 1 else holders_of n rows)
holders_of-raised n m rows = go (has_holder m rows) refl
  where
    more : (xs : List KeyHolders) → holders_of n (map (one_more m) xs) ≡ (if (m == n) && has_holder m xs then holders_of n xs + 1 else holders_of n xs)
    more [] = grind (arith, nat_tests)
    more (x ∷ xs) = rw (one_more-number m x, one_more-count m x) (grind (arith, nat_tests, more xs))

    pushed : (xs : List KeyHolders) → has_holder m xs ≡ false → holders_of n (xs ++ record { number = m; count = 1 } ∷ []) ≡ (if m == n then holders_of n xs + 1 else holders_of n xs)
    pushed [] h = grind (arith, nat_tests)
    pushed (x ∷ xs) h = grind (arith, nat_tests, h, pushed xs)

    go : (b : Bool) → has_holder m rows ≡ b → holders_of n (cond b (map (one_more m) rows) (rows ++ record { number = m; count = 1 } ∷ [])) ≡ (if m == n then holders_of n rows + 1 else holders_of n rows)
    go true e = grind (arith, nat_tests, more rows, e)
    go false e = pushed rows e

pub has_holder-lowered : (n m : ℕ) (rows : List KeyHolders) → has_holder n (lowered m rows) ≡ (if (m == n) && is_last m rows then false else has_holder n rows)
has_holder-lowered n m rows = go (is_last m rows)
  where
    same : (xs : List KeyHolders) → has_holder n (map (one_less m) xs) ≡ has_holder n xs
    same [] = refl
    same (x ∷ xs) = grind (arith, nat_tests, same xs)

    gone : (xs : List KeyHolders) → has_holder n (filter (λ row. not (row.number == m)) xs) ≡ (if m == n then false else has_holder n xs)
    gone [] = grind (arith, nat_tests)
    gone (x ∷ xs) = grind (arith, nat_tests, gone xs)

    go : (b : Bool) → has_holder n (cond b (filter (λ row. not (row.number == m)) rows) (map (one_less m) rows)) ≡ (if (m == n) && b then false else has_holder n rows)
    go true = grind (arith, nat_tests, gone rows)
    go false = grind (arith, nat_tests, same rows)

pub holders_of-lowered : (n m : ℕ) (rows : List KeyHolders) → holders_of n (lowered m rows) ≡ (if m == n then holders_of n rows - 1 else holders_of n rows)
holders_of-lowered n m rows = go (is_last m rows) refl
  where
    less : (xs : List KeyHolders) → holders_of n (map (one_less m) xs) ≡ (if m == n then holders_of n xs - 1 else holders_of n xs)
    less [] = grind (arith, nat_tests)
    less (x ∷ xs) = grind (arith, nat_tests, less xs)

    gone : (xs : List KeyHolders) → holders_of n (filter (λ row. not (row.number == m)) xs) ≡ (if m == n then 0 else holders_of n xs)
    gone [] = grind (arith, nat_tests)
    gone (x ∷ xs) = grind (arith, nat_tests, gone xs)

    go : (b : Bool) → is_last m rows ≡ b → holders_of n (cond b (filter (λ row. not (row.number == m)) rows) (map (one_less m) rows)) ≡ (if m == n then holders_of n rows - 1 else holders_of n rows)
    go true e = grind (arith, nat_tests, gone rows, e)
    go false e = less rows

pub holders_none : (n : ℕ) (rows : List KeyHolders) → has_holder n rows ≡ false → holders_of n rows ≡ 0
holders_none n [] h = refl
holders_none n (row ∷ rows) h = grind (arith, nat_tests, h, holders_none n rows)

-- what stands for a number, where one more stands for its own
pub key_at-placed : (n : ℕ) (new : NumberedKey) (rows : List NumberedKey) → key_at n (placed new rows) ≡ (if new.number == n then Some new.key else key_at n rows)
key_at-placed n new [] = refl
key_at-placed n new (row ∷ rows) = grind (arith, nat_tests, key_at-placed n new rows)

pub key_at-without : (n m : ℕ) (rows : List NumberedKey) → key_at n (without m rows) ≡ (if m == n then None else key_at n rows)
key_at-without n m [] = grind (arith, nat_tests)
key_at-without n m (row ∷ rows) = grind (arith, nat_tests, key_at-without n m rows)

-- a number that is found for a text stands for a key
pub number_at-known : (text : List ℕ) (rows : List NumberedKey) (n : ℕ) → number_at text rows ≡ Some n → is_some (key_at n rows) ≡ true
number_at-known text [] n h = cc
number_at-known text (row ∷ rows) n h = go (bytes_eq row.key.text text) h (number_at-known text rows n)
  where
    go : (b : Bool) → (if b then Some row.number else number_at text rows) ≡ Some n → (number_at text rows ≡ Some n → is_some (key_at n rows) ≡ true)
        → is_some (if row.number == n then Some row.key else key_at n rows) ≡ true
    go true e ih = let same : row.number ≡ n = cc in grind (arith, nat_tests, same)
    go false e ih = let known : is_some (key_at n rows) ≡ true = ih e in grind (arith, nat_tests, known)

-- what holds of one number
pub or_known : (m n : ℕ) (P : ℕ → Bool) (b : Bool) → P m ≡ true → P n ≡ b → P n ≡ ((m == n) || b)
or_known m n P b known is_b = go (m == n) refl
  where
    go : (t : Bool) → (m == n) ≡ t → P n ≡ (t || b)
    go true e = ap P (sym (eqb-true m n e)) ∙ known
    go false e = is_b
