-- The entries of the map, as a view.
use Rattle.std.proofs.Common.{◌≡◌, ℕ, ◌+◌, ◌-◌, ◌<◌, ◌≤◌, Bool, true, false, cond, List, [], ◌∷◌, map, Option, Some, None, refl, sym, ap, ◌∙◌, subst, arith}
use Rattle.std.specs.Prelude.{bytes_eq, nat_le, unwrap_or, String, Result, Ok, Err, OnErr, OnOk}
use Rattle.std.specs.String.{string_bytes, string_cmp}
use Rattle.std.specs.BTreeMap.{insert_entry}
use Rattle.std.specs.Map.{lookup, set_value, remove_entry}
use Rattle.std.specs.Cmp.Lexicographic.{slice_cmp}
use Rattle.std.specs.Ordering.{nat_cmp, is_eq, match_ordering}
use Rattle.std.specs.declared.cmp.Ordering.{Ordering}
use Rattle.std.specs.declared.cmp.Ordering.TheVariants.{Less, Equal, Greater}
use Rattle.std.specs.List.{AllByRecursion}
use Rattle.std.specs.List.Sorted.{IsStrictlySortedBy}
use Rattle.std.proofs.lemmas.Bool.Decides.{nat_tests}
use Rattle.std.proofs.lemmas.Map.Keys.{sorted_head, sorted_tail}
use Rattle.std.proofs.lemmas.Map.Text.{is_eq-slice_cmp}
use Rattle.zs_members.specs.Members.{Member, member_of, NamesAscend, AreThere, count_of, raised, lowered}
use Rattle.zs_members.proofs.Counting.{order, Above, above_first, above_more, ascend_rest, ascend_with, ascend_nothing, none_above, more_left}

none_there : {n : ℕ} → None ≡ Some n → ⊥
none_there h = cc

the_count : {m n : ℕ} → Some m ≡ Some n → m ≡ n
the_count h = cc

module _ {A : Type 0} where
  -- the test by which the map finds a text
  abbrev pub is_text : List ℕ → String A → Bool
  is_text bytes k = is_eq (slice_cmp nat_cmp bytes (string_bytes k))

  pub count_row : (bytes : List ℕ) (es : List (String A × ℕ)) → unwrap_or (lookup (is_text bytes) es) 0 ≡ count_of bytes (map member_of es)
  count_row bytes [] = refl
  count_row bytes (e ∷ es) = go (is_text bytes e.0) (bytes_eq bytes (string_bytes e.0)) (is_eq-slice_cmp bytes (string_bytes e.0)) (count_row bytes es)
    where
      go : (b c : Bool) → b ≡ c → unwrap_or (lookup (is_text bytes) es) 0 ≡ count_of bytes (map member_of es)
          → unwrap_or (cond b (Some e.1) (lookup (is_text bytes) es)) 0 ≡ cond c e.1 (count_of bytes (map member_of es))
      go true true same rest = refl
      go true false same rest = absurd (cc)
      go false true same rest = absurd (cc)
      go false false same rest = rest

  above_rows : (k : String A) (es : List (String A × ℕ)) → AllByRecursion (λ l. string_cmp k l ≡ Less) (map (λ e. e.0) es) → Above (string_bytes k) (map member_of es)
  above_rows k [] above = tt
  above_rows k (e ∷ es) above = (above.0, above_rows k es above.1)

  pub ascend_rows : (es : List (String A × ℕ)) → IsStrictlySortedBy string_cmp (map (λ e. e.0) es) → NamesAscend (map member_of es)
  ascend_rows [] sorted = ascend_nothing
  ascend_rows (e ∷ es) sorted =
      ascend_with (member_of e) (map member_of es)
      (above_rows e.0 es (sorted_head string_cmp e.0 (map (λ d. d.0) es) sorted))
      (ascend_rows es (sorted_tail string_cmp e.0 (map (λ d. d.0) es) sorted))

  pub there_rows : (es : List (String A × ℕ)) → AllByRecursion (λ e. 0 < e.1) es → AreThere (map member_of es)
  there_rows [] there = tt
  there_rows (e ∷ es) there = (there.0, there_rows es there.1)

  -- a new name goes where it belongs
  pub put_new : (k : String A) (es : List (String A × ℕ)) → count_of (string_bytes k) (map member_of es) ≡ 0
      → map member_of (insert_entry string_cmp es k 1) ≡ raised (string_bytes k) (map member_of es)
  put_new k [] absent = refl
  put_new k (e ∷ es) absent = go (string_cmp k e.0) refl (put_new k es)
    where
      find : (o : Ordering) → string_cmp k e.0 ≡ o → cond (is_eq o) e.1 (count_of (string_bytes k) (map member_of es)) ≡ 0
      find o h = subst (λ (b : Bool). cond b e.1 (count_of (string_bytes k) (map member_of es)) ≡ 0) (sym (is_eq-slice_cmp (string_bytes k) (string_bytes e.0)) ∙ ap is_eq h) absent

      one : (n : ℕ) → n ≡ 0 → 1 ≡ n + 1
      one n h = omega arith

      go : (o : Ordering) → string_cmp k e.0 ≡ o
          → (count_of (string_bytes k) (map member_of es) ≡ 0 → map member_of (insert_entry string_cmp es k 1) ≡ raised (string_bytes k) (map member_of es))
          → map member_of (match_ordering o ((k, 1) ∷ e ∷ es) ((e.0, 1) ∷ es) (e ∷ insert_entry string_cmp es k 1))
          ≡ match_ordering o (record { name = string_bytes k; count = 1 } ∷ member_of e ∷ map member_of es)
          (record { name = string_bytes e.0; count = e.1 + 1 } ∷ map member_of es)
          (member_of e ∷ raised (string_bytes k) (map member_of es))
      go Less h rest = refl
      go Equal h rest = ap (λ n. record { name = string_bytes e.0; count = n } ∷ map member_of es) (one e.1 (find Equal h))
      go Greater h rest = ap (λ ms. member_of e ∷ ms) (rest (find Greater h))

  -- the count of a name that is there is raised
  pub put_more : (bytes : List ℕ) (old now : ℕ) (es : List (String A × ℕ)) → lookup (is_text bytes) es ≡ Some old → 0 < old → NamesAscend (map member_of es) → now ≡ old + 1
      → map member_of (set_value (is_text bytes) es now) ≡ raised bytes (map member_of es)
  put_more bytes old now [] there some ascend is = absurd (none_there there)
  put_more bytes old now (e ∷ es) there some ascend is = go (order bytes (string_bytes e.0)) refl (put_more bytes old now es)
    where
      find : (o : Ordering) → order bytes (string_bytes e.0) ≡ o → cond (is_eq o) (Some e.1) (lookup (is_text bytes) es) ≡ Some old
      find o h = subst (λ p. cond (is_eq p) (Some e.1) (lookup (is_text bytes) es) ≡ Some old) h there

      none_of : (n : ℕ) → n ≡ old → n ≡ 0 → ⊥
      none_of n same none = omega arith

      go : (o : Ordering) → order bytes (string_bytes e.0) ≡ o
          → (lookup (is_text bytes) es ≡ Some old → 0 < old → NamesAscend (map member_of es) → now ≡ old + 1
          → map member_of (set_value (is_text bytes) es now) ≡ raised bytes (map member_of es))
          → map member_of (cond (is_eq o) ((e.0, now) ∷ es) (e ∷ set_value (is_text bytes) es now))
          ≡ match_ordering o (record { name = bytes; count = 1 } ∷ member_of e ∷ map member_of es)
          (record { name = string_bytes e.0; count = e.1 + 1 } ∷ map member_of es)
          (member_of e ∷ raised bytes (map member_of es))
      go Less h rest =
          let above = above_more bytes (string_bytes e.0) (map member_of es) h (above_first (member_of e) (map member_of es) ascend) in
          absurd (none_of (unwrap_or (lookup (is_text bytes) es) 0) (ap (λ o. unwrap_or o 0) (find Less h)) (count_row bytes es ∙ none_above bytes (map member_of es) above))
      go Equal h rest =
          ap (λ n. record { name = string_bytes e.0; count = n } ∷ map member_of es)
          (is ∙ ap (λ n. n + 1) (sym (the_count (find Equal h))))
      go Greater h rest =
          ap (λ ms. member_of e ∷ ms)
          (rest (find Greater h) some (ascend_rest (member_of e) (map member_of es) ascend) is)

  -- what is written over by itself
  pub put_same : (bytes : List ℕ) (old : ℕ) (es : List (String A × ℕ)) → lookup (is_text bytes) es ≡ Some old → set_value (is_text bytes) es old ≡ es
  put_same bytes old [] there = refl
  put_same bytes old (e ∷ es) there = go (is_text bytes e.0) refl (put_same bytes old es)
    where
      find : (b : Bool) → is_text bytes e.0 ≡ b → cond b (Some e.1) (lookup (is_text bytes) es) ≡ Some old
      find b h = subst (λ (c : Bool). cond c (Some e.1) (lookup (is_text bytes) es) ≡ Some old) h there

      go : (b : Bool) → is_text bytes e.0 ≡ b → (lookup (is_text bytes) es ≡ Some old → set_value (is_text bytes) es old ≡ es)
          → cond b ((e.0, old) ∷ es) (e ∷ set_value (is_text bytes) es old) ≡ e ∷ es
      go true h rest = ap (λ n. (e.0, n) ∷ es) (sym (the_count (find true h)))
      go false h rest = ap (λ ds. e ∷ ds) (rest (find false h))

  -- the last one of a name takes it away
  pub take_last : (bytes : List ℕ) (old : ℕ) (es : List (String A × ℕ)) → lookup (is_text bytes) es ≡ Some old → nat_le old 1 ≡ true
      → map member_of (remove_entry (is_text bytes) es) ≡ lowered bytes (map member_of es)
  take_last bytes old [] there last = refl
  take_last bytes old (e ∷ es) there last = go (is_text bytes e.0) (bytes_eq bytes (string_bytes e.0)) refl (is_eq-slice_cmp bytes (string_bytes e.0)) (take_last bytes old es)
    where
      find : (b : Bool) → is_text bytes e.0 ≡ b → cond b (Some e.1) (lookup (is_text bytes) es) ≡ Some old
      find b h = subst (λ (c : Bool). cond c (Some e.1) (lookup (is_text bytes) es) ≡ Some old) h there

      go : (b c : Bool) → is_text bytes e.0 ≡ b → b ≡ c
          → (lookup (is_text bytes) es ≡ Some old → nat_le old 1 ≡ true → map member_of (remove_entry (is_text bytes) es) ≡ lowered bytes (map member_of es))
          → map member_of (cond b es (e ∷ remove_entry (is_text bytes) es))
          ≡ cond c (cond (nat_le e.1 1) (map member_of es) (record { name = string_bytes e.0; count = e.1 - 1 } ∷ map member_of es)) (member_of e ∷ lowered bytes (map member_of es))
      go true true h same rest =
          sym (ap (λ (b : Bool). cond b (map member_of es) (record { name = string_bytes e.0; count = e.1 - 1 } ∷ map member_of es))
          (ap (λ n. nat_le n 1) (the_count (find true h)) ∙ last))
      go true false h same rest = absurd (cc)
      go false true h same rest = absurd (cc)
      go false false h same rest = ap (λ ms. member_of e ∷ ms) (rest (find false h) last)

  -- and else its count is lowered
  pub put_less : (bytes : List ℕ) (old now : ℕ) (es : List (String A × ℕ)) → lookup (is_text bytes) es ≡ Some old → nat_le old 1 ≡ false → now ≡ old - 1
      → map member_of (set_value (is_text bytes) es now) ≡ lowered bytes (map member_of es)
  put_less bytes old now [] there more is = absurd (none_there there)
  put_less bytes old now (e ∷ es) there more is = go (is_text bytes e.0) (bytes_eq bytes (string_bytes e.0)) refl (is_eq-slice_cmp bytes (string_bytes e.0)) (put_less bytes old now es)
    where
      find : (b : Bool) → is_text bytes e.0 ≡ b → cond b (Some e.1) (lookup (is_text bytes) es) ≡ Some old
      find b h = subst (λ (c : Bool). cond c (Some e.1) (lookup (is_text bytes) es) ≡ Some old) h there

      go : (b c : Bool) → is_text bytes e.0 ≡ b → b ≡ c
          → (lookup (is_text bytes) es ≡ Some old → nat_le old 1 ≡ false → now ≡ old - 1 → map member_of (set_value (is_text bytes) es now) ≡ lowered bytes (map member_of es))
          → map member_of (cond b ((e.0, now) ∷ es) (e ∷ set_value (is_text bytes) es now))
          ≡ cond c (cond (nat_le e.1 1) (map member_of es) (record { name = string_bytes e.0; count = e.1 - 1 } ∷ map member_of es)) (member_of e ∷ lowered bytes (map member_of es))
      go true true h same rest =
          let count : e.1 ≡ old = the_count (find true h) in
          ap (λ n. record { name = string_bytes e.0; count = n } ∷ map member_of es) (is ∙ ap (λ n. n - 1) (sym count))
          ∙ sym (ap (λ (b : Bool). cond b (map member_of es) (record { name = string_bytes e.0; count = e.1 - 1 } ∷ map member_of es))
          (ap (λ n. nat_le n 1) count ∙ more))
      go true false h same rest = absurd (cc)
      go false true h same rest = absurd (cc)
      go false false h same rest = ap (λ ms. member_of e ∷ ms) (rest (find false h) more is)

  -- nothing changes where the name isn't there
  pub take_none : (bytes : List ℕ) (es : List (String A × ℕ)) → lookup (is_text bytes) es ≡ None → lowered bytes (map member_of es) ≡ map member_of es
  take_none bytes [] absent = refl
  take_none bytes (e ∷ es) absent = go (is_text bytes e.0) (bytes_eq bytes (string_bytes e.0)) refl (is_eq-slice_cmp bytes (string_bytes e.0)) (take_none bytes es)
    where
      find : (b : Bool) → is_text bytes e.0 ≡ b → cond b (Some e.1) (lookup (is_text bytes) es) ≡ None
      find b h = subst (λ (c : Bool). cond c (Some e.1) (lookup (is_text bytes) es) ≡ None) h absent

      go : (b c : Bool) → is_text bytes e.0 ≡ b → b ≡ c → (lookup (is_text bytes) es ≡ None → lowered bytes (map member_of es) ≡ map member_of es)
          → cond c (cond (nat_le e.1 1) (map member_of es) (record { name = string_bytes e.0; count = e.1 - 1 } ∷ map member_of es)) (member_of e ∷ lowered bytes (map member_of es))
          ≡ member_of e ∷ map member_of es
      go true c h same rest = absurd (none_there (sym (find true h)))
      go false true h same rest = absurd (cc)
      go false false h same rest = ap (λ ms. member_of e ∷ ms) (rest (find false h))

  -- each count stays above none
  abbrev pub AreSome : List (String A × ℕ) → Type 0
  AreSome es = AllByRecursion (λ e. 0 < e.1) es

  pub some_found : (bytes : List ℕ) (n : ℕ) (es : List (String A × ℕ)) → AreSome es → lookup (is_text bytes) es ≡ Some n → 0 < n
  some_found bytes n [] all there = absurd (none_there there)
  some_found bytes n (e ∷ es) all there = go (is_text bytes e.0) there (some_found bytes n es all.1)
    where
      go : (b : Bool) → cond b (Some e.1) (lookup (is_text bytes) es) ≡ Some n → (lookup (is_text bytes) es ≡ Some n → 0 < n) → 0 < n
      go true is rest = subst (λ m. 0 < m) (the_count is) all.0
      go false is rest = rest is

  pub some_set : (bytes : List ℕ) (n : ℕ) (es : List (String A × ℕ)) → AreSome es → 0 < n → AreSome (set_value (is_text bytes) es n)
  some_set bytes n [] all some = tt
  some_set bytes n (e ∷ es) all some = go (is_text bytes e.0) (some_set bytes n es all.1 some)
    where
      go : (b : Bool) → AreSome (set_value (is_text bytes) es n) → AreSome (cond b ((e.0, n) ∷ es) (e ∷ set_value (is_text bytes) es n))
      go true rest = (some, all.1)
      go false rest = (all.0, rest)

  pub some_removed : (bytes : List ℕ) (es : List (String A × ℕ)) → AreSome es → AreSome (remove_entry (is_text bytes) es)
  some_removed bytes [] all = tt
  some_removed bytes (e ∷ es) all = go (is_text bytes e.0) (some_removed bytes es all.1)
    where
      go : (b : Bool) → AreSome (remove_entry (is_text bytes) es) → AreSome (cond b es (e ∷ remove_entry (is_text bytes) es))
      go true rest = all.1
      go false rest = (all.0, rest)

  pub some_put : (k : String A) (es : List (String A × ℕ)) → AreSome es → AreSome (insert_entry string_cmp es k 1)
  some_put k [] all = (one, tt)
    where
      one : 0 < 1
      one = omega arith
  some_put k (e ∷ es) all = go (string_cmp k e.0) (some_put k es all.1)
    where
      one : 0 < 1
      one = omega arith

      go : (o : Ordering) → AreSome (insert_entry string_cmp es k 1) → AreSome (match_ordering o ((k, 1) ∷ e ∷ es) ((e.0, 1) ∷ es) (e ∷ insert_entry string_cmp es k 1))
      go Less rest = (one, all)
      go Equal rest = (one, all.1)
      go Greater rest = (all.0, rest)

pub when_err : {T E P : Type 0} (r : Result T E) → P → OnErr r P
when_err (Ok v) p = tt
when_err (Err e) p = p

pub when_ok : {T E P : Type 0} (r : Result T E) → P → OnOk r P
when_ok (Ok v) p = p
when_ok (Err e) p = tt

pub no_ok : {T E : Type 0} (P : Type 0) (r : Result T E) (e : E) → r ≡ Err e → OnOk r P
no_ok P (Ok v) e is = absurd (cc)
no_ok P (Err d) e is = tt

-- what holds in both cases of an answer
pub in_both : {T E : Type 0} (P Q R : Type 0) (r : Result T E) → OnOk r P → OnErr r Q → (P → R) → (Q → R) → R
in_both P Q R (Ok v) ok err from_ok from_err = from_ok ok
in_both P Q R (Err e) ok err from_ok from_err = from_err err

pub then_ok : {T E : Type 0} (P Q : Type 0) (r : Result T E) → OnOk r P → (P → Q) → OnOk r Q
then_ok P Q (Ok v) ok next = next ok
then_ok P Q (Err e) ok next = tt

pub then_err : {T E : Type 0} (P Q : Type 0) (r : Result T E) → OnErr r P → (P → Q) → OnErr r Q
then_err P Q (Ok v) err next = tt
then_err P Q (Err e) err next = next err

pub still_some : (old new : ℕ) → 0 < old → new ≡ old + 1 → 0 < new
still_some old new some is = omega arith

pub is_more : (n : ℕ) → 1 < n → nat_le n 1 ≡ false
is_more n h = grind (arith, nat_tests)

pub is_last : (n : ℕ) → n ≤ 1 → nat_le n 1 ≡ true
is_last n h = grind (arith, nat_tests)
