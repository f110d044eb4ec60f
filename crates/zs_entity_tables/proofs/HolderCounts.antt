-- The rows that a map of counts stands for.
use Rattle.std.proofs.Common.{◌≡◌, ◌+◌, ◌-◌, ◌<◌, ℕ, List, [], ◌∷◌, ◌++◌, Bool, true, false, None, refl, sym, ◌∙◌, ap, arith, map}
use Rattle.std.specs.Prelude.{◌==◌, not, filter, nat_eq, nat_lt, if◌then◌else◌}
use Rattle.std.specs.List.{AllByRecursion, IsDistinct}
use Rattle.std.specs.Map.{keys_of, lookup, set_value}
use Rattle.std.specs.Option.{unwrap_or}
use Rattle.std.proofs.lemmas.Bool.Decides.{nat_tests}
use Rattle.indexmap.specs.IndexMap.{insert_entry, shift_remove_entry}
use Rattle.zs_entity_tables.specs.DeclaredKeys.{holders_of, has_holder, one_more, one_less, raised, lowered, is_last}
use Rattle.zs_entity_tables.specs.HolderCounts.{held_rows}

-- no entry is of that number
abbrev Apart : ℕ → List (ℕ × ℕ) → Type 0
Apart n es = AllByRecursion (λ k. nat_eq n k ≡ false) (keys_of es)

-- so nobody holds it
none_hold : (n : ℕ) (es : List (ℕ × ℕ)) → Apart n es → holders_of n (held_rows es) ≡ 0
none_hold n [] a = refl
none_hold n (e ∷ es) a = grind (arith, nat_tests, a.0, none_hold n es a.1)

none_more : (n : ℕ) (es : List (ℕ × ℕ)) → Apart n es → map (one_more n) (held_rows es) ≡ held_rows es
none_more n [] a = refl
none_more n (e ∷ es) a = grind (arith, nat_tests, a.0, none_more n es a.1)

none_less : (n : ℕ) (es : List (ℕ × ℕ)) → Apart n es → map (one_less n) (held_rows es) ≡ held_rows es
none_less n [] a = refl
none_less n (e ∷ es) a = grind (arith, nat_tests, a.0, none_less n es a.1)

none_out : (n : ℕ) (es : List (ℕ × ℕ)) → Apart n es → filter (λ row. not (row.number == n)) (held_rows es) ≡ held_rows es
none_out n [] a = refl
none_out n (e ∷ es) a = grind (arith, nat_tests, a.0, none_out n es a.1)

-- whoever is held has a count
has_is : (n : ℕ) (es : List (ℕ × ℕ)) → has_holder n (held_rows es) ≡ nat_lt 0 (holders_of n (held_rows es))
has_is n [] = refl
has_is n (e ∷ es) = grind (arith, nat_tests, has_is n es)

-- a count is that of the map
pub count_is : (n : ℕ) (es : List (ℕ × ℕ)) → IsDistinct nat_eq (keys_of es) → unwrap_or (lookup (nat_eq n) es) 0 ≡ holders_of n (held_rows es)
unfolding IsDistinct
count_is n [] d = refl
count_is n (e ∷ es) d = go (nat_eq n e.0) refl (count_is n es d.1)
  where
    go : (b : Bool) → nat_eq n e.0 ≡ b → unwrap_or (lookup (nat_eq n) es) 0 ≡ holders_of n (held_rows es) → unwrap_or (lookup (nat_eq n) (e ∷ es)) 0 ≡ holders_of n (held_rows (e ∷ es))
    go true is rest = grind (arith, nat_tests, is, none_hold e.0 es d.0)
    go false is rest = grind (arith, nat_tests, is, rest)

-- whoever has a count above 0 in the map is held
pub has_from : (n : ℕ) (es : List (ℕ × ℕ)) → IsDistinct nat_eq (keys_of es) → nat_lt 0 (unwrap_or (lookup (nat_eq n) es) 0) ≡ has_holder n (held_rows es)
has_from n es d = ap (nat_lt 0) (count_is n es d) ∙ sym (has_is n es)

-- a count that is written over one above 0 rises
more_is : (n v : ℕ) (es : List (ℕ × ℕ)) → IsDistinct nat_eq (keys_of es) → 0 < holders_of n (held_rows es) → v ≡ holders_of n (held_rows es) + 1
    → held_rows (insert_entry nat_eq es n v) ≡ map (one_more n) (held_rows es)
unfolding IsDistinct
more_is n v [] d some is = absurd (omega (arith, some))
more_is n v (e ∷ es) d some is = go (nat_eq n e.0) refl (more_is n v es d.1)
  where
    go : (b : Bool) → nat_eq n e.0 ≡ b
        → (0 < holders_of n (held_rows es) → v ≡ holders_of n (held_rows es) + 1 → held_rows (insert_entry nat_eq es n v) ≡ map (one_more n) (held_rows es))
        → held_rows (insert_entry nat_eq (e ∷ es) n v) ≡ map (one_more n) (held_rows (e ∷ es))
    go true at rest = grind (arith, nat_tests, at, some, is, none_hold e.0 es d.0, none_more e.0 es d.0)
    go false at rest = grind (arith, nat_tests, at, some, is, rest)

-- a new count goes last
new_last : (n : ℕ) (es : List (ℕ × ℕ)) → Apart n es → held_rows (insert_entry nat_eq es n 1) ≡ held_rows es ++ record { number = n; count = 1 } ∷ []
new_last n [] a = refl
new_last n (e ∷ es) a = grind (arith, nat_tests, a.0, new_last n es a.1)

-- so does one in the place of a 0
new_is : (n : ℕ) (es : List (ℕ × ℕ)) → IsDistinct nat_eq (keys_of es) → holders_of n (held_rows es) ≡ 0
    → held_rows (insert_entry nat_eq (shift_remove_entry (nat_eq n) es) n 1) ≡ held_rows es ++ record { number = n; count = 1 } ∷ []
unfolding IsDistinct
new_is n [] d none = refl
new_is n (e ∷ es) d none = go (nat_eq n e.0) refl (new_is n es d.1)
  where
    go : (b : Bool) → nat_eq n e.0 ≡ b
        → (holders_of n (held_rows es) ≡ 0 → held_rows (insert_entry nat_eq (shift_remove_entry (nat_eq n) es) n 1) ≡ held_rows es ++ record { number = n; count = 1 } ∷ [])
        → held_rows (insert_entry nat_eq (shift_remove_entry (nat_eq n) (e ∷ es)) n 1) ≡ held_rows (e ∷ es) ++ record { number = n; count = 1 } ∷ []
    go true at rest = grind (arith, nat_tests, at, none, new_last e.0 es d.0)
    go false at rest = grind (arith, nat_tests, at, none, rest)

-- a 0 that is written over a count takes it out
out_is : (n : ℕ) (es : List (ℕ × ℕ)) → IsDistinct nat_eq (keys_of es) → held_rows (set_value (nat_eq n) es 0) ≡ filter (λ row. not (row.number == n)) (held_rows es)
unfolding IsDistinct
out_is n [] d = refl
out_is n (e ∷ es) d = go (nat_eq n e.0) refl (out_is n es d.1)
  where
    go : (b : Bool) → nat_eq n e.0 ≡ b
        → held_rows (set_value (nat_eq n) es 0) ≡ filter (λ row. not (row.number == n)) (held_rows es)
        → held_rows (set_value (nat_eq n) (e ∷ es) 0) ≡ filter (λ row. not (row.number == n)) (held_rows (e ∷ es))
    go true at rest = grind (arith, nat_tests, at, none_out e.0 es d.0)
    go false at rest = grind (arith, nat_tests, at, rest)

-- one less that is written over a count above 1 lowers it
less_is : (n v : ℕ) (es : List (ℕ × ℕ)) → IsDistinct nat_eq (keys_of es) → 1 < holders_of n (held_rows es) → v ≡ holders_of n (held_rows es) - 1
    → held_rows (set_value (nat_eq n) es v) ≡ map (one_less n) (held_rows es)
unfolding IsDistinct
less_is n v [] d some is = refl
less_is n v (e ∷ es) d some is = go (nat_eq n e.0) refl (less_is n v es d.1)
  where
    go : (b : Bool) → nat_eq n e.0 ≡ b
        → (1 < holders_of n (held_rows es) → v ≡ holders_of n (held_rows es) - 1 → held_rows (set_value (nat_eq n) es v) ≡ map (one_less n) (held_rows es))
        → held_rows (set_value (nat_eq n) (e ∷ es) v) ≡ map (one_less n) (held_rows (e ∷ es))
    go true at rest = grind (arith, nat_tests, at, some, is, none_hold e.0 es d.0, none_less e.0 es d.0)
    go false at rest = grind (arith, nat_tests, at, some, is, rest)

-- where a number has no count, none is written
unset_same : (n v : ℕ) (es : List (ℕ × ℕ)) → lookup (nat_eq n) es ≡ None → set_value (nat_eq n) es v ≡ es
unset_same n v [] none = refl
unset_same n v (e ∷ es) none = grind (arith, nat_tests, none, unset_same n v es)

module _ (n : ℕ) (es : List (ℕ × ℕ)) (distinct : IsDistinct nat_eq (keys_of es)) where
  -- one more
  pub raised_more : (v : ℕ) → 0 < holders_of n (held_rows es) → v ≡ holders_of n (held_rows es) + 1 → held_rows (insert_entry nat_eq es n v) ≡ raised n (held_rows es)
  raised_more v some is =
      let there : has_holder n (held_rows es) ≡ true = has_is n es ∙ grind (arith, nat_tests, some) in
      more_is n v es distinct some is ∙ sym (ap (λ (b : Bool). if b then map (one_more n) (held_rows es) else held_rows es ++ record { number = n; count = 1 } ∷ []) there)

  pub raised_new : holders_of n (held_rows es) ≡ 0 → held_rows (insert_entry nat_eq (shift_remove_entry (nat_eq n) es) n 1) ≡ raised n (held_rows es)
  raised_new none =
      let gone : has_holder n (held_rows es) ≡ false = has_is n es ∙ grind (arith, nat_tests, none) in
      new_is n es distinct none ∙ sym (ap (λ (b : Bool). if b then map (one_more n) (held_rows es) else held_rows es ++ record { number = n; count = 1 } ∷ []) gone)

  -- one less
  pub lowered_is : (v : ℕ) → v ≡ holders_of n (held_rows es) - 1 → held_rows (set_value (nat_eq n) es v) ≡ lowered n (held_rows es)
  lowered_is v is = go (is_last n (held_rows es)) refl
    where
      go : (b : Bool) → is_last n (held_rows es) ≡ b → held_rows (set_value (nat_eq n) es v) ≡ (if b then filter (λ row. not (row.number == n)) (held_rows es) else map (one_less n) (held_rows es))
      go true last = let zero_left : v ≡ 0 = grind (arith, nat_tests, last, is) in rw zero_left (out_is n es distinct)
      go false more = let some : 1 < holders_of n (held_rows es) = grind (arith, nat_tests, more) in less_is n v es distinct some is

  -- or none, where a number has no count
  pub lowered_none : lookup (nat_eq n) es ≡ None → held_rows es ≡ lowered n (held_rows es)
  lowered_none none =
      let nobody : 0 ≡ holders_of n (held_rows es) - 1 = grind (arith, sym (count_is n es distinct), none) in
      ap held_rows (sym (unset_same n 0 es none)) ∙ lowered_is 0 nobody
