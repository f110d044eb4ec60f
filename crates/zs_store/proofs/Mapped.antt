-- The entries of the map, as a store.
use Rattle.std.proofs.Common.{◌≡◌, ℕ, Bool, true, false, cond, List, [], ◌∷◌, map, Some, None, refl, sym, ap, ◌∙◌, subst}
use Rattle.std.specs.Prelude.{bytes_eq, String, Result, Ok, Err, OnErr, OnOk}
use Rattle.std.specs.String.{string_bytes, string_cmp}
use Rattle.std.specs.Option.{option_map}
use Rattle.std.specs.BTreeMap.{insert_entry}
use Rattle.std.specs.Map.{lookup, set_value}
use Rattle.std.specs.Cmp.Lexicographic.{slice_cmp}
use Rattle.std.specs.Ordering.{nat_cmp, is_eq, match_ordering}
use Rattle.std.specs.declared.cmp.Ordering.{Ordering}
use Rattle.std.specs.declared.cmp.Ordering.TheVariants.{Less, Equal, Greater}
use Rattle.std.specs.List.{AllByRecursion}
use Rattle.std.specs.List.Sorted.{IsStrictlySortedBy}
use Rattle.std.proofs.lemmas.Map.Keys.{sorted_head, sorted_tail}
use Rattle.std.proofs.lemmas.Map.Text.{is_eq-slice_cmp}
use Rattle.zs_store.specs.declared.entry.Entry.{Entry}
use Rattle.zs_store.specs.Entry.{EntrySeen, seen, is_below, greater}
use Rattle.zs_store.specs.Store.{Write, write_of, KeysAscend, found, merged}
use Rattle.zs_store.proofs.Stores.{order, Above, above_first, above_more, ascend_rest, ascend_with, ascend_nothing, none_above}

none_there : {e : EntrySeen} → Some e ≡ None → ⊥
none_there h = cc

the_value : {e old : Entry} → Some e ≡ Some old → e ≡ old
the_value h = cc

module _ {A : Type 0} where
  -- the test by which the map finds a text
  abbrev pub is_text : List ℕ → String A → Bool
  is_text bytes k = is_eq (slice_cmp nat_cmp bytes (string_bytes k))

  pub found_row : (bytes : List ℕ) (es : List (String A × Entry)) → option_map seen (lookup (is_text bytes) es) ≡ found bytes (map write_of es)
  found_row bytes [] = refl
  found_row bytes (e ∷ es) = go (is_text bytes e.0) (bytes_eq bytes (string_bytes e.0)) (is_eq-slice_cmp bytes (string_bytes e.0)) (found_row bytes es)
    where
      go : (b c : Bool) → b ≡ c → option_map seen (lookup (is_text bytes) es) ≡ found bytes (map write_of es)
          → option_map seen (cond b (Some e.1) (lookup (is_text bytes) es)) ≡ cond c (Some (seen e.1)) (found bytes (map write_of es))
      go true true same rest = refl
      go true false same rest = absurd (cc)
      go false true same rest = absurd (cc)
      go false false same rest = rest

  above_rows : (k : String A) (es : List (String A × Entry)) → AllByRecursion (λ l. string_cmp k l ≡ Less) (map (λ e. e.0) es) → Above (string_bytes k) (map write_of es)
  above_rows k [] above = tt
  above_rows k (e ∷ es) above = (above.0, above_rows k es above.1)

  pub ascend_rows : (es : List (String A × Entry)) → IsStrictlySortedBy string_cmp (map (λ e. e.0) es) → KeysAscend (map write_of es)
  ascend_rows [] sorted = ascend_nothing
  ascend_rows (e ∷ es) sorted =
      ascend_with (write_of e) (map write_of es)
      (above_rows e.0 es (sorted_head string_cmp e.0 (map (λ d. d.0) es) sorted))
      (ascend_rows es (sorted_tail string_cmp e.0 (map (λ d. d.0) es) sorted))

  -- a new key goes where it belongs
  pub put_new : (k : String A) (new : Entry) (es : List (String A × Entry)) → found (string_bytes k) (map write_of es) ≡ None
      → map write_of (insert_entry string_cmp es k new) ≡ merged (record { key = string_bytes k; entry = seen new }) (map write_of es)
  put_new k new [] absent = refl
  put_new k new (e ∷ es) absent = go (string_cmp k e.0) refl (put_new k new es)
    where
      write : Write
      write = record { key = string_bytes k; entry = seen new }

      find : (o : Ordering) → string_cmp k e.0 ≡ o → cond (is_eq o) (Some (seen e.1)) (found (string_bytes k) (map write_of es)) ≡ None
      find o h = subst (λ (b : Bool). cond b (Some (seen e.1)) (found (string_bytes k) (map write_of es)) ≡ None) (sym (is_eq-slice_cmp (string_bytes k) (string_bytes e.0)) ∙ ap is_eq h) absent

      go : (o : Ordering) → string_cmp k e.0 ≡ o
          → (found (string_bytes k) (map write_of es) ≡ None → map write_of (insert_entry string_cmp es k new) ≡ merged (record { key = string_bytes k; entry = seen new }) (map write_of es))
          → map write_of (match_ordering o ((k, new) ∷ e ∷ es) ((e.0, new) ∷ es) (e ∷ insert_entry string_cmp es k new))
          ≡ match_ordering o (record { key = string_bytes k; entry = seen new } ∷ write_of e ∷ map write_of es)
          (record { key = string_bytes e.0; entry = greater (seen e.1) (seen new) } ∷ map write_of es)
          (write_of e ∷ merged (record { key = string_bytes k; entry = seen new }) (map write_of es))
      go Less h rest = refl
      go Equal h rest = absurd (none_there (find Equal h))
      go Greater h rest = ap (λ ws. write_of e ∷ ws) (rest (find Greater h))

  -- what stands at a key is written over by the greater entry
  pub put_over : (bytes : List ℕ) (old new now : Entry) (es : List (String A × Entry)) → lookup (is_text bytes) es ≡ Some old → KeysAscend (map write_of es) → seen now ≡ greater (seen old) (seen new)
      → map write_of (set_value (is_text bytes) es now) ≡ merged (record { key = bytes; entry = seen new }) (map write_of es)
  put_over bytes old new now [] there ascend is = absurd (cc)
  put_over bytes old new now (e ∷ es) there ascend is = go (order bytes (string_bytes e.0)) refl (put_over bytes old new now es)
    where
      find : (o : Ordering) → order bytes (string_bytes e.0) ≡ o → cond (is_eq o) (Some e.1) (lookup (is_text bytes) es) ≡ Some old
      find o h = subst (λ p. cond (is_eq p) (Some e.1) (lookup (is_text bytes) es) ≡ Some old) h there

      go : (o : Ordering) → order bytes (string_bytes e.0) ≡ o
          → (lookup (is_text bytes) es ≡ Some old → KeysAscend (map write_of es) → seen now ≡ greater (seen old) (seen new)
          → map write_of (set_value (is_text bytes) es now) ≡ merged (record { key = bytes; entry = seen new }) (map write_of es))
          → map write_of (cond (is_eq o) ((e.0, now) ∷ es) (e ∷ set_value (is_text bytes) es now))
          ≡ match_ordering o (record { key = bytes; entry = seen new } ∷ write_of e ∷ map write_of es)
          (record { key = string_bytes e.0; entry = greater (seen e.1) (seen new) } ∷ map write_of es)
          (write_of e ∷ merged (record { key = bytes; entry = seen new }) (map write_of es))
      go Less h rest =
          let above = above_more bytes (string_bytes e.0) (map write_of es) h (above_first (write_of e) (map write_of es) ascend) in
          absurd (none_there (sym (ap (option_map seen) (find Less h)) ∙ (found_row bytes es ∙ none_above bytes (map write_of es) above)))
      go Equal h rest =
          ap (λ f. record { key = string_bytes e.0; entry = f } ∷ map write_of es)
          (is ∙ ap (λ o. greater (seen o) (seen new)) (sym (the_value (find Equal h))))
      go Greater h rest =
          ap (λ ws. write_of e ∷ ws)
          (rest (find Greater h) (ascend_rest (write_of e) (map write_of es) ascend) is)

  -- what is written over by itself
  pub put_same : (bytes : List ℕ) (old : Entry) (es : List (String A × Entry)) → lookup (is_text bytes) es ≡ Some old → set_value (is_text bytes) es old ≡ es
  put_same bytes old [] there = refl
  put_same bytes old (e ∷ es) there = go (is_text bytes e.0) refl (put_same bytes old es)
    where
      find : (b : Bool) → is_text bytes e.0 ≡ b → cond b (Some e.1) (lookup (is_text bytes) es) ≡ Some old
      find b h = subst (λ (c : Bool). cond c (Some e.1) (lookup (is_text bytes) es) ≡ Some old) h there

      go : (b : Bool) → is_text bytes e.0 ≡ b → (lookup (is_text bytes) es ≡ Some old → set_value (is_text bytes) es old ≡ es)
          → cond b ((e.0, old) ∷ es) (e ∷ set_value (is_text bytes) es old) ≡ e ∷ es
      go true h rest = ap (λ f. (e.0, f) ∷ es) (sym (the_value (find true h)))
      go false h rest = ap (λ ds. e ∷ ds) (rest (find false h))

pub when_err : {T E P : Type 0} (r : Result T E) → P → OnErr r P
when_err (Ok v) p = tt
when_err (Err e) p = p

-- the entry that stays
pub stays : (below : Bool) (old new : Entry) → below ≡ is_below (seen old) (seen new) → seen (cond below new old) ≡ greater (seen old) (seen new)
stays below old new is = go below ∙ ap (λ (b : Bool). cond b (seen new) (seen old)) is
  where
    go : (b : Bool) → seen (cond b new old) ≡ cond b (seen new) (seen old)
    go true = refl
    go false = refl

pub when_ok : {T E P : Type 0} (r : Result T E) → P → OnOk r P
when_ok (Ok v) p = p
when_ok (Err e) p = tt

pub no_ok : {T E : Type 0} (P : Type 0) (r : Result T E) (e : E) → r ≡ Err e → OnOk r P
no_ok P (Ok v) e is = absurd (cc)
no_ok P (Err d) e is = tt
