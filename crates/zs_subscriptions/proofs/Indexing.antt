-- The index of numbers by text stays that of the rows.
use Rattle.std.proofs.Common.{◌≡◌, ℕ, ◌<◌, ◌≢◌, Bool, true, false, List, [], ◌∷◌, length, get_or, set, Option, Some, None, Vec, String, Result, Ok, Err, OnOk, OnErr, refl, sym, ap, subst, ◌∙◌, arith}
use Rattle.std.specs.Prelude.{◌==◌, nat_lt, not, map, filter, bytes_eq, string_bytes, if◌then◌else◌}
use Rattle.std.specs.Option.{option_map_or}
use Rattle.std.specs.List.{AllByRecursion, find, list_any}
use Rattle.std.specs.Map.{update}
use Rattle.std.specs.HashMap.{HashMap, get_by_text, UpdatesBy}
use Rattle.std.specs.String.{string_eq}
use Rattle.std.proofs.lemmas.Map.Text.{hash_map_updates_text}
use Rattle.std.proofs.lemmas.Slice.Eq.{bytes_eq-Decides}
use Rattle.std.proofs.lemmas.Bool.Decides.{nat_tests}
use Rattle.std.proofs.lemmas.List.{set-get_or}
use Rattle.zs_subscriptions.specs.Ascending.{Ascend, placed_by}
use Rattle.zs_subscriptions.specs.Numbers.{NumberedKey, number_at}
use Rattle.zs_subscriptions.specs.Texts.{first, numbers_with, listed, ListsNumbers, SameLists, Joins, Leaves, Moves}
use Rattle.zs_subscriptions.specs.Lists.{held}
use Rattle.zs_subscriptions.specs.declared.number_row.NumberRow.{NumberRow}
use Rattle.zs_keyed.proofs.Ascending.{none_has}
use Rattle.zs_subscriptions.proofs.Searching.{set_here, filter_none}
use Rattle.zs_subscriptions.proofs.Ascending.{all_weaker, all_map, all_filter, ascend_map, ascend_filter}

-- a number that is in an ascending list is placed already
pub placed_there : (n : ℕ) (xs : List ℕ) (at : ℕ) → Ascend (λ x. x) xs → at < length xs → get_or xs at n ≡ n → xs ≡ placed_by (λ x. x) n xs
placed_there n xs at up lt here = sym (set-get_or xs at n) ∙ (ap (set xs at) here ∙ set_here (λ x. x) n xs at up lt here)

same_where : (b : Bool) (xs : List ℕ) → (if b then xs else xs) ≡ xs
same_where true xs = refl
same_where false xs = refl

module _ {A S : Type 0} where
  -- what a look-up finds after a change under one text
  listed_updated : (m n : HashMap (String A) (Vec ℕ A) S) (text : List ℕ) (w : Option (Vec ℕ A)) (f : List ℕ → List ℕ) → UpdatesBy string_eq (λ k. bytes_eq text (string_bytes k)) m n w → option_map_or (λ numbers. numbers.items) w [] ≡ f (listed text m) → (other : List ℕ) → listed other n ≡ (if bytes_eq text other then f (listed other m) else listed other m)
  listed_updated m n text w f updates is other = ap (λ found. option_map_or (λ (numbers : Vec ℕ A). numbers.items) found []) (hash_map_updates_text text m n w updates other) ∙ go (bytes_eq text other) refl
    where
      go : (b : Bool) → bytes_eq text other ≡ b → option_map_or (λ (numbers : Vec ℕ A). numbers.items) (update bytes_eq (get_by_text m) text w other) [] ≡ (if bytes_eq text other then f (listed other m) else listed other m)
      go true same = rw (same, ← (bytes_eq-Decides text other).0 same) is
      go false apart = rw apart refl

  -- a number that is put into the list of a text
  pub joined_in : (m n : HashMap (String A) (Vec ℕ A) S) (text : List ℕ) (number : ℕ) (was now : Vec ℕ A) → Some was ≡ get_by_text m text → UpdatesBy string_eq (λ k. bytes_eq text (string_bytes k)) m n (Some now) → now.items ≡ placed_by (λ x. x) number was.items → Joins text number m n
  joined_in m n text number was now found updates is = record {
    each = listed_updated m n text (Some now) (placed_by (λ x. x) number) updates (is ∙ ap (λ o. placed_by (λ x. x) number (option_map_or (λ (numbers : Vec ℕ A). numbers.items) o [])) found);
  }

  -- a list that stays as it was
  pub same_in : (m n : HashMap (String A) (Vec ℕ A) S) (text : List ℕ) (was now : Vec ℕ A) → Some was ≡ get_by_text m text → UpdatesBy string_eq (λ k. bytes_eq text (string_bytes k)) m n (Some now) → now.items ≡ was.items → SameLists m n
  same_in m n text was now found updates is = record {
    each = λ other. listed_updated m n text (Some now) (λ xs. xs) updates (is ∙ ap (λ o. option_map_or (λ (numbers : Vec ℕ A). numbers.items) o []) found) other ∙ same_where (bytes_eq text other) (listed other m);
  }

  -- a text that comes with its first number
  pub joined_new : (m n : HashMap (String A) (Vec ℕ A) S) (text : List ℕ) (number : ℕ) (key : String A) (now : Vec ℕ A) → None ≡ get_by_text m text → string_bytes key ≡ text → UpdatesBy string_eq (string_eq key) m n (Some now) → now.items ≡ number ∷ [] → Joins text number m n
  joined_new m n text number key now none bytes updates is =
      let key_none : None ≡ get_by_text m (string_bytes key) = rw bytes none in
      let from_key : Joins (string_bytes key) number m n = record {
        each = listed_updated m n (string_bytes key) (Some now) (placed_by (λ x. x) number) updates (is ∙ ap (λ o. placed_by (λ x. x) number (option_map_or (λ (numbers : Vec ℕ A). numbers.items) o [])) key_none);
      } in
      subst (λ t. Joins t number m n) bytes from_key

  -- a number that is taken out of the list of a text
  pub left_in : (m n : HashMap (String A) (Vec ℕ A) S) (text : List ℕ) (number : ℕ) (was now : Vec ℕ A) → Some was ≡ get_by_text m text → UpdatesBy string_eq (λ k. bytes_eq text (string_bytes k)) m n (Some now) → now.items ≡ filter (λ x. not (x == number)) was.items → Leaves text number m n
  left_in m n text number was now found updates is = record {
    each = listed_updated m n text (Some now) (filter (λ x. not (x == number))) updates (is ∙ ap (λ o. filter (λ x. not (x == number)) (option_map_or (λ (numbers : Vec ℕ A). numbers.items) o [])) found);
  }

  -- a list of none that goes
  pub left_empty : (m k n : HashMap (String A) (Vec ℕ A) S) (text : List ℕ) (number : ℕ) → Leaves text number m k → listed text k ≡ [] → UpdatesBy string_eq (λ k. bytes_eq text (string_bytes k)) k n None → Leaves text number m n
  left_empty m k n text number left none updates = record {
    each = λ other. (listed_updated k n text None (λ xs. xs) updates (sym none) other ∙ same_where (bytes_eq text other) (listed other k)) ∙ left.each other;
  }

-- what holds where a call succeeds
pub on_ok : {E P Q : Type 0} (r : Result (Unit {0}) E) → (P → Q) → OnOk r P → OnOk r Q
on_ok (Ok u) f p = f p
on_ok (Err e) f p = tt

pub on_err : {E P Q : Type 0} (r : Result (Unit {0}) E) → (P → Q) → OnErr r P → OnErr r Q
on_err (Ok u) f p = tt
on_err (Err e) f p = f p

-- what holds anyhow
pub always_err : {E P : Type 0} (r : Result (Unit {0}) E) → P → OnErr r P
always_err (Ok u) p = tt
always_err (Err e) p = p

-- the numbers of the rows that have a text
abbrev pub of_text : List ℕ → List NumberRow → List ℕ
of_text text rows = map (λ row. row.number) (filter (λ row. bytes_eq row.key.text text) rows)

-- they are those that contracts see
pub seen_of_text : (text : List ℕ) (rows : List NumberRow) → numbers_with text (held rows) ≡ of_text text rows
seen_of_text text [] = refl
seen_of_text text (row ∷ rows) = grind (arith, nat_tests, seen_of_text text rows)

-- they ascend
pub of_text_ascends : (text : List ℕ) (rows : List NumberRow) → Ascend (λ row. row.number) rows → Ascend (λ n. n) (of_text text rows)
of_text_ascends text rows up =
    ascend_map (λ n. n) (λ (row : NumberRow). row.number) (filter (λ row. bytes_eq row.key.text text) rows) (ascend_filter (λ (row : NumberRow). row.number) (λ row. bytes_eq row.key.text text) rows up)

-- the first of them is the least number of the text
pub first_of_text : (text : List ℕ) (rows : List NumberedKey) → first (numbers_with text rows) ≡ number_at text rows
first_of_text text [] = refl
first_of_text text (row ∷ rows) = grind (arith, nat_tests, first_of_text text rows)

-- what is above a number is so where a text picks from it
above : (text : List ℕ) (n : ℕ) (rows : List NumberRow) → AllByRecursion (λ row. n < row.number) rows → AllByRecursion (λ m. n < m) (of_text text rows)
above text n rows all =
    all_map (λ (row : NumberRow). n < row.number) (λ m. n < m) (λ (row : NumberRow). row.number) (λ row lt. lt) (filter (λ row. bytes_eq row.key.text text) rows)
    (all_filter (λ (row : NumberRow). n < row.number) (λ row. bytes_eq row.key.text text) rows all)

-- a number below all others comes first
placed_first : (n : ℕ) (ms : List ℕ) → AllByRecursion (λ m. n < m) ms → placed_by (λ x. x) n ms ≡ n ∷ ms
placed_first n [] all = refl
placed_first n (m ∷ ms) all = grind (arith, nat_tests, all.0)

-- and is none of them
not_there : (n : ℕ) (ms : List ℕ) → AllByRecursion (λ m. n < m) ms → filter (λ m. not (m == n)) ms ≡ ms
not_there n ms all = filter_none (λ m. m) n ms (all_weaker (λ m. n < m) (λ m. m ≢ n) (λ m lt same. omega (arith, lt, same)) ms all)

-- the numbers of a text once a row is placed: with it where it has the text, and else without it
of_text_placed : (text : List ℕ) (new : NumberRow) (rows : List NumberRow) → Ascend (λ row. row.number) rows → of_text text (placed_by (λ row. row.number) new rows) ≡
    (if bytes_eq new.key.text text then placed_by (λ n. n) new.number (of_text text rows) else filter (λ n. not (n == new.number)) (of_text text rows))
of_text_placed text new [] up = grind (arith, nat_tests)
of_text_placed text new (row ∷ rows) up = go (row.number == new.number) refl (nat_lt new.number row.number) refl (of_text_placed text new rows up.1)
  where
    go : (same : Bool) → (row.number == new.number) ≡ same → (below : Bool) → nat_lt new.number row.number ≡ below
        → of_text text (placed_by (λ row. row.number) new rows) ≡ (if bytes_eq new.key.text text then placed_by (λ n. n) new.number (of_text text rows) else filter (λ n. not (n == new.number)) (of_text text rows))
        → of_text text (placed_by (λ row. row.number) new (row ∷ rows)) ≡
        (if bytes_eq new.key.text text then placed_by (λ n. n) new.number (of_text text (row ∷ rows)) else filter (λ n. not (n == new.number)) (of_text text (row ∷ rows)))
    go true same below is rest =
        let all = above text new.number rows (all_weaker (λ (later : NumberRow). row.number < later.number) (λ later. new.number < later.number) (λ later lt. grind (arith, nat_tests, same, lt)) rows up.0) in
        grind (arith, nat_tests, same, placed_first new.number (of_text text rows) all, not_there new.number (of_text text rows) all)
    go false same true is rest =
        let lt : new.number < row.number = grind (arith, nat_tests, is) in
        let all = above text new.number (row ∷ rows) ((lt, all_weaker (λ (later : NumberRow). row.number < later.number) (λ later. new.number < later.number) (λ later more. omega (arith, lt, more)) rows up.0)) in
        grind (arith, nat_tests, same, is, placed_first new.number (of_text text (row ∷ rows)) all, not_there new.number (of_text text (row ∷ rows)) all)
    go false same false is rest = grind (arith, nat_tests, same, is, rest)

-- once a number is taken out
of_text_without : (text : List ℕ) (n : ℕ) (rows : List NumberRow) → of_text text (filter (λ row. not (row.number == n)) rows) ≡ filter (λ m. not (m == n)) (of_text text rows)
of_text_without text n [] = refl
of_text_without text n (row ∷ rows) = grind (arith, nat_tests, of_text_without text n rows)

-- a number that has another text is not among them
of_text_apart : (text : List ℕ) (n : ℕ) (rows : List NumberRow) → AllByRecursion (λ row. row.number ≡ n → bytes_eq row.key.text text ≡ false) rows → filter (λ m. not (m == n)) (of_text text rows) ≡ of_text text rows
of_text_apart text n [] all = refl
of_text_apart text n (row ∷ rows) all = go (bytes_eq row.key.text text) refl (of_text_apart text n rows all.1)
  where
    go : (b : Bool) → bytes_eq row.key.text text ≡ b → filter (λ m. not (m == n)) (of_text text rows) ≡ of_text text rows → filter (λ m. not (m == n)) (of_text text (row ∷ rows)) ≡ of_text text (row ∷ rows)
    go true has rest =
        let other : row.number ≢ n = λ same. absurd (let no = all.0 same in cc) in
        grind (arith, nat_tests, has, other, rest)
    go false has rest = grind (arith, nat_tests, has, rest)

-- in ascending rows one alone has a number
one_row : (n : ℕ) (old : NumberRow) (rows : List NumberRow) → Ascend (λ row. row.number) rows → Some old ≡ find (λ row. row.number == n) rows → AllByRecursion (λ row. row.number ≡ n → row ≡ old) rows
one_row n old [] up found = tt
one_row n old (row ∷ rows) up found = go (row.number == n) refl (one_row n old rows up.1)
  where
    go : (b : Bool) → (row.number == n) ≡ b → (Some old ≡ find (λ row. row.number == n) rows → AllByRecursion (λ row. row.number ≡ n → row ≡ old) rows) → AllByRecursion (λ row. row.number ≡ n → row ≡ old) (row ∷ rows)
    go true here more =
        let there : Some old ≡ Some row = rw here at found in
        let is : row ≡ old = cc in
        (λ same. is, all_weaker (λ (later : NumberRow). row.number < later.number) (λ later. later.number ≡ n → later ≡ old) (λ later over same. absurd (grind (arith, nat_tests, here, over, same))) rows up.0)
    go false apart more = (λ same. absurd (grind (arith, nat_tests, apart, same)), more (rw apart at found))

-- so it has no other text
one_text : (text : List ℕ) (n : ℕ) (old : NumberRow) (rows : List NumberRow) → Ascend (λ row. row.number) rows → Some old ≡ find (λ row. row.number == n) rows → bytes_eq old.key.text text ≡ false → filter (λ m. not (m == n)) (of_text text rows) ≡ of_text text rows
one_text text n old rows up found apart =
    of_text_apart text n rows (all_weaker (λ (row : NumberRow). row.number ≡ n → row ≡ old) (λ row. row.number ≡ n → bytes_eq row.key.text text ≡ false) (λ row is same. ap (λ (r : NumberRow). bytes_eq r.key.text text) (is same) ∙ apart) rows (one_row n old rows up found))

module _ {A S : Type 0} where
  -- the list of a text ascends
  pub list_ascends : (rows : List NumberRow) (texts : HashMap (String A) (Vec ℕ A) S) (text : List ℕ) → Ascend (λ row. row.number) rows → ListsNumbers (held rows) texts → Ascend (λ n. n) (listed text texts)
  list_ascends rows texts text up is = subst (λ ns. Ascend (λ n. n) ns) (sym (is.each text ∙ seen_of_text text rows)) (of_text_ascends text rows up)

  -- and so does each
  pub all_ascend : (rows : List NumberRow) (texts : HashMap (String A) (Vec ℕ A) S) → Ascend (λ row. row.number) rows → ListsNumbers (held rows) texts → (text : List ℕ) → Ascend (λ n. n) (listed text texts)
  all_ascend rows texts up is text = list_ascends rows texts text up is

  -- an index of the same numbers
  pub still_indexed : (old new : List NumberedKey) (texts : HashMap (String A) (Vec ℕ A) S) → new ≡ old → ListsNumbers old texts → ListsNumbers new texts
  still_indexed old new texts same is = subst (λ rows. ListsNumbers rows texts) (sym same) is

  -- an index of none
  pub none_indexed : (texts : HashMap (String A) (Vec ℕ A) S) → texts.entries ≡ [] → (numbers : List NumberedKey) → numbers ≡ [] → ListsNumbers numbers texts
  none_indexed texts none numbers empty = record { each = λ text. rw (none, empty) refl }

  -- the least number of a text is the first under it
  pub first_is_least : (rows : List NumberedKey) (texts : HashMap (String A) (Vec ℕ A) S) (text : List ℕ) → ListsNumbers rows texts → first (listed text texts) ≡ number_at text rows
  first_is_least rows texts text is = ap first (is.each text) ∙ first_of_text text rows

  -- what is listed stays
  pub lists_same : (rows : List NumberRow) (old new : HashMap (String A) (Vec ℕ A) S) → ListsNumbers (held rows) old → SameLists old new → ListsNumbers (held rows) new
  lists_same rows old new is same = record { each = λ text. same.each text ∙ is.each text }

  -- a new number
  pub lists_joined : (new : NumberRow) (rows : List NumberRow) (old texts : HashMap (String A) (Vec ℕ A) S) → Ascend (λ row. row.number) rows → list_any (λ row. row.number == new.number) rows ≡ false → ListsNumbers (held rows) old → Joins new.key.text new.number old texts → ListsNumbers (held (placed_by (λ row. row.number) new rows)) texts
  lists_joined new rows old texts up unused is joins = record { each = λ text. go text (bytes_eq new.key.text text) refl }
    where
      go : (text : List ℕ) (b : Bool) → bytes_eq new.key.text text ≡ b → listed text texts ≡ numbers_with text (held (placed_by (λ row. row.number) new rows))
      go text b has =
          let apart = of_text_apart text new.number rows (all_weaker (λ (row : NumberRow). row.number ≢ new.number) (λ row. row.number ≡ new.number → bytes_eq row.key.text text ≡ false) (λ row no same. absurd (no same)) rows (none_has (λ row. row.number) new.number rows unused)) in
          grind (arith, nat_tests, has, joins.each text, is.each text, seen_of_text text rows, seen_of_text text (placed_by (λ row. row.number) new rows), of_text_placed text new rows up, apart)

  -- another key of a number
  pub lists_moved : (new was : NumberRow) (rows : List NumberRow) (old texts : HashMap (String A) (Vec ℕ A) S) → Ascend (λ row. row.number) rows → Some was ≡ find (λ row. row.number == new.number) rows → ListsNumbers (held rows) old → Moves was.key.text new.key.text new.number old texts → ListsNumbers (held (placed_by (λ row. row.number) new rows)) texts
  lists_moved new was rows old texts up found is moves = record { each = λ text. go text (bytes_eq was.key.text text) refl }
    where
      go : (text : List ℕ) (b : Bool) → bytes_eq was.key.text text ≡ b → listed text texts ≡ numbers_with text (held (placed_by (λ row. row.number) new rows))
      go text true has = grind (arith, nat_tests, has, moves.each text, is.each text, seen_of_text text rows, seen_of_text text (placed_by (λ row. row.number) new rows), of_text_placed text new rows up)
      go text false has = grind (arith, nat_tests, has, moves.each text, is.each text, seen_of_text text rows, seen_of_text text (placed_by (λ row. row.number) new rows), of_text_placed text new rows up, one_text text new.number was rows up found has)

  -- without a number
  pub lists_left : (n : ℕ) (was : NumberRow) (rows : List NumberRow) (old texts : HashMap (String A) (Vec ℕ A) S) → Ascend (λ row. row.number) rows → Some was ≡ find (λ row. row.number == n) rows → ListsNumbers (held rows) old → Leaves was.key.text n old texts → ListsNumbers (held (filter (λ row. not (row.number == n)) rows)) texts
  lists_left n was rows old texts up found is leaves = record { each = λ text. go text (bytes_eq was.key.text text) refl }
    where
      go : (text : List ℕ) (b : Bool) → bytes_eq was.key.text text ≡ b → listed text texts ≡ numbers_with text (held (filter (λ row. not (row.number == n)) rows))
      go text true has = grind (arith, nat_tests, has, leaves.each text, is.each text, seen_of_text text rows, seen_of_text text (filter (λ row. not (row.number == n)) rows), of_text_without text n rows)
      go text false has = grind (arith, nat_tests, has, leaves.each text, is.each text, seen_of_text text rows, seen_of_text text (filter (λ row. not (row.number == n)) rows), of_text_without text n rows, one_text text n was rows up found has)
