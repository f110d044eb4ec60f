-- The table of a sort of entities is the plain filter over all that was declared of it, and its numbers ascend.
use Rattle.std.proofs.Common.{◌≡◌, ◌<◌, ◌≤◌, ◌+◌, ℕ, List, [], ◌∷◌, ◌++◌, Bool, true, false, Option, refl, sym, ◌∙◌, ap, arith}
use Rattle.std.specs.Prelude.{◌==◌, ◌&&◌, ◌||◌, not, filter}
use Rattle.std.specs.List.{list_any, AllByRecursion}
use Rattle.std.proofs.lemmas.Bool.Decides.{nat_tests}
use Rattle.std.proofs.lemmas.List.Folds.{list_any-append}
use Rattle.std.proofs.lemmas.List.Elements.{filter-append, filter_agree}
use Rattle.zs_wire.specs.declared.message.Message.{Message}
use Rattle.zs_wire.specs.declared.message.Message.TheVariants.{Close as close_message}
use Rattle.zs_subscriptions.specs.Ascending.{Ascend}
use Rattle.zs_events.specs.declared.event.Event.{Event}
use Rattle.zs_events.specs.declared.turn.Kind.{Kind}
use Rattle.zs_events.specs.Kinds.{NoEntity, message_row}
use Rattle.zs_model.specs.Entry.{Entry}
use Rattle.zs_model.specs.Live.{appended, declared, drew, ends, drew_unended, is_live}
use Rattle.zs_model.proofs.Filters.{filter-filter, filter_none, all_weaker, all_append}

-- what a change makes of one table of entities
pub data RowChange (R : Type 0) : Type 0 where
  Keep : RowChange R
  Add : (row : R) → RowChange R
  Take : (id : ℕ) → RowChange R
  Clear : RowChange R

abbrev pub rows_after : {R : Type 0} → (R → ℕ) → RowChange R → List R → List R
rows_after number Keep rows = rows
rows_after number (Add row) rows = rows ++ row ∷ []
rows_after number (Take id) rows = filter (λ row. not (number row == id)) rows
rows_after number Clear rows = []

-- the row that it declares
abbrev pub new_rows : {R : Type 0} → RowChange R → List R
new_rows (Add row) = row ∷ []
new_rows c = []

-- that draws a number, and that ends it
abbrev pub draws_in : {R : Type 0} → (R → ℕ) → ℕ → RowChange R → Bool
draws_in number id (Add row) = id == number row
draws_in number id c = false

abbrev pub ends_in : {R : Type 0} → ℕ → RowChange R → Bool
ends_in id (Take other) = id == other
ends_in id Clear = true
ends_in id c = false

-- what it takes for granted, with the next number before it and behind it
abbrev pub FitsIn : {R : Type 0} → (R → ℕ) → ℕ → ℕ → RowChange R → Type 0
FitsIn number next after (Add row) = (number row ≡ next) × (after ≡ next + 1)
FitsIn number next after c = next ≤ after

-- an entry says of a sort of entities what its change does
pub record SaysRows {R : Type 0} (number : R → ℕ) (kind : Kind) (row_of : Event → Option ℕ → Option (List ℕ) → List R) (x : Entry) (c : RowChange R) : Type 0 where
  pub row : row_of x.event x.number x.text ≡ new_rows c
  pub drew : (id : ℕ) → drew kind id x.event x.number ≡ draws_in number id c
  pub ended : (id : ℕ) → ends kind id x.event ≡ ends_in id c

-- what a table of entities is behind a past
pub record AreRows {R : Type 0} (number : R → ℕ) (kind : Kind) (row_of : Event → Option ℕ → Option (List ℕ) → List R) (rows : List R) (next : ℕ) (past : List Entry) : Type 0 where
  pub table : rows ≡ filter (λ row. is_live kind (number row) past) (declared row_of past)
  pub found : (id : ℕ) → list_any (λ row. number row == id) rows ≡ is_live kind id past
  -- every declared number is below the next one, and they ascend
  pub below : AllByRecursion (λ row. number row < next) (declared row_of past)
  pub ascend : Ascend number (declared row_of past)

pub rows_none : {R : Type 0} (number : R → ℕ) (kind : Kind) (row_of : Event → Option ℕ → Option (List ℕ) → List R) (next : ℕ) → AreRows number kind row_of [] next []
rows_none number kind row_of next = record { table = refl; found = λ id. refl; below = tt; ascend = tt }

ended_tests : (a l e r : Bool) → (a && not (l || (e || false)) || (not e && r)) ≡ (not e && (a && not l || r))
ended_tests true true true r = refl
ended_tests true true false r = refl
ended_tests true false true r = refl
ended_tests true false false r = refl
ended_tests false l true r = refl
ended_tests false l false r = refl

-- a later event that ends nothing of the number changes nothing, and one that ends it ends all before it
ended : (kind : Kind) (id : ℕ) (e : Event) (later : List Event) (past : List Entry)
    → drew_unended kind id (later ++ e ∷ []) past ≡ (not (ends kind id e) && drew_unended kind id later past)
ended kind id e later [] = grind (arith, nat_tests)
ended kind id e later (x ∷ past) =
    rw (list_any-append (ends kind id) later (e ∷ []), ended kind id e (x.event ∷ later) past)
    (ended_tests (drew kind id x.event x.number) (list_any (ends kind id) later) (ends kind id e) (drew_unended kind id (x.event ∷ later) past))

and_true : (b : Bool) → (b && true) ≡ b
and_true true = refl
and_true false = refl

-- whether something is live behind one more event
live_step : (kind : Kind) (id : ℕ) (x : Entry) (past : List Entry)
    → is_live kind id (x ∷ past) ≡ (drew kind id x.event x.number || (not (ends kind id x.event) && is_live kind id past))
live_step kind id x past = rw (and_true (drew kind id x.event x.number), ended kind id x.event [] past) refl

-- so by its change
live_said : {R : Type 0} (number : R → ℕ) (kind : Kind) (row_of : Event → Option ℕ → Option (List ℕ) → List R) (x : Entry) (c : RowChange R) (past : List Entry)
    → SaysRows number kind row_of x c → (id : ℕ) → is_live kind id (x ∷ past) ≡ (draws_in number id c || (not (ends_in id c) && is_live kind id past))
live_said number kind row_of x c past m id =
    live_step kind id x past
    ∙ ap (λ (b : Bool). b || (not (ends kind id x.event) && is_live kind id past)) (m.drew id)
    ∙ ap (λ (b : Bool). draws_in number id c || (not b && is_live kind id past)) (m.ended id)

-- the declared entities that were live stay so behind one that draws a number above theirs
kept_live : {R : Type 0} (number : R → ℕ) (kind : Kind) (n : ℕ) (past : List Entry) (rows : List R) → AllByRecursion (λ row. number row < n) rows
    → filter (λ row. (number row == n) || (true && is_live kind (number row) past)) rows ≡ filter (λ row. is_live kind (number row) past) rows
kept_live number kind n past [] all = refl
kept_live number kind n past (row ∷ rows) all = grind (arith, nat_tests, all.0, kept_live number kind n past rows all.1)

same_number : (n : ℕ) → (n == n) ≡ true
same_number n = grind (arith, nat_tests)

-- a new one behind them is live
grown : {R : Type 0} (number : R → ℕ) (kind : Kind) (past : List Entry) (rows table : List R) (row : R) → AllByRecursion (λ r. number r < number row) rows
    → table ≡ filter (λ r. is_live kind (number r) past) rows
    → table ++ row ∷ [] ≡ filter (λ r. (number r == number row) || (true && is_live kind (number r) past)) (rows ++ row ∷ [])
grown number kind past rows table row under ih =
    rw (filter-append (λ r. (number r == number row) || (true && is_live kind (number r) past)) rows (row ∷ []), same_number (number row), kept_live number kind (number row) past rows under, ih) refl

-- the table is the filter behind a change
table_step : {R : Type 0} (number : R → ℕ) (kind : Kind) (next after : ℕ) (c : RowChange R) (past : List Entry) (rows table : List R) → FitsIn number next after c
    → AllByRecursion (λ row. number row < next) rows → table ≡ filter (λ row. is_live kind (number row) past) rows
    → rows_after number c table
    ≡ filter (λ row. draws_in number (number row) c || (not (ends_in (number row) c) && is_live kind (number row) past)) (appended rows (new_rows c))
table_step number kind next after (Add row) past rows table fits all ih = grown number kind past rows table row (rw fits.0 all) ih
table_step number kind next after (Take id) past rows table fits all ih =
    ap (λ rs. filter (λ row. not (number row == id)) rs) ih
    ∙ sym (filter-filter (λ row. not (number row == id)) (λ row. is_live kind (number row) past) rows)
table_step number kind next after Clear past rows table fits all ih = sym (filter_none rows)
table_step number kind next after Keep past rows table fits all ih = ih

-- one that is left out is found no more, and all others are
any-left : {R : Type 0} (number : R → ℕ) (id other : ℕ) (rows : List R)
    → list_any (λ row. number row == id) (filter (λ row. not (number row == other)) rows) ≡ (not (id == other) && list_any (λ row. number row == id) rows)
any-left number id other [] = grind (arith, nat_tests)
any-left number id other (row ∷ rows) = grind (arith, nat_tests, any-left number id other rows)

any-new : {R : Type 0} (number : R → ℕ) (id : ℕ) (rows : List R) (row : R)
    → list_any (λ r. number r == id) (rows ++ row ∷ []) ≡ ((id == number row) || (true && list_any (λ r. number r == id) rows))
any-new number id [] row = grind (arith, nat_tests)
any-new number id (r ∷ rows) row = grind (arith, nat_tests, any-new number id rows row)

-- what is in a table is found behind a change where it was drawn, or was there and did not end
found_step : {R : Type 0} (number : R → ℕ) (c : RowChange R) (table : List R) (id : ℕ) (live : Bool) → list_any (λ row. number row == id) table ≡ live
    → list_any (λ row. number row == id) (rows_after number c table) ≡ (draws_in number id c || (not (ends_in id c) && live))
found_step number (Add row) table id live ih = any-new number id table row ∙ ap (λ (b : Bool). (id == number row) || (true && b)) ih
found_step number (Take other) table id live ih = any-left number id other table ∙ ap (λ (b : Bool). not (id == other) && b) ih
found_step number Clear table id live ih = refl
found_step number Keep table id live ih = ih

ascend_push : {R : Type 0} (number : R → ℕ) (rows : List R) (row : R) → AllByRecursion (λ r. number r < number row) rows → Ascend number rows → Ascend number (rows ++ row ∷ [])
ascend_push number [] row under up = (tt, tt)
ascend_push number (r ∷ rows) row under up = (all_append (λ later. number r < number later) rows (row ∷ []) up.0 (under.0, tt), ascend_push number rows row under.1 up.1)

ascend_step : {R : Type 0} (number : R → ℕ) (next after : ℕ) (c : RowChange R) (rows : List R) → FitsIn number next after c → AllByRecursion (λ row. number row < next) rows → Ascend number rows
    → Ascend number (appended rows (new_rows c))
ascend_step number next after (Add row) rows fits all up = ascend_push number rows row (rw fits.0 all) up
ascend_step number next after (Take id) rows fits all up = up
ascend_step number next after Clear rows fits all up = up
ascend_step number next after Keep rows fits all up = up

weaker : {R : Type 0} (number : R → ℕ) (next after : ℕ) (rows : List R) → next ≤ after → AllByRecursion (λ row. number row < next) rows → AllByRecursion (λ row. number row < after) rows
weaker number next after rows le all = all_weaker (λ r. number r < next) (λ r. number r < after) (λ r h. omega (arith, h, le)) rows all

below_step : {R : Type 0} (number : R → ℕ) (next after : ℕ) (c : RowChange R) (rows : List R) → FitsIn number next after c → AllByRecursion (λ row. number row < next) rows
    → AllByRecursion (λ row. number row < after) (appended rows (new_rows c))
below_step number next after (Add row) rows fits all =
    all_append (λ r. number r < after) rows (row ∷ []) (weaker number next after rows (omega (arith, fits.1)) all) (omega (arith, fits.0, fits.1), tt)
below_step number next after (Take id) rows fits all = weaker number next after rows fits all
below_step number next after Clear rows fits all = weaker number next after rows fits all
below_step number next after Keep rows fits all = weaker number next after rows fits all

-- an accepted event keeps it so
pub rows_more : {R : Type 0} (number : R → ℕ) (kind : Kind) (row_of : Event → Option ℕ → Option (List ℕ) → List R) (rows : List R) (next after : ℕ) (past : List Entry) (x : Entry) (c : RowChange R)
    → SaysRows number kind row_of x c → FitsIn number next after c → AreRows number kind row_of rows next past
    → AreRows number kind row_of (rows_after number c rows) after (x ∷ past)
rows_more number kind row_of rows next after past x c m fits l = record {
  table =
      table_step number kind next after c past (declared row_of past) rows fits l.below l.table
      ∙ sym (filter_agree (λ row. is_live kind (number row) (x ∷ past)) (λ row. draws_in number (number row) c || (not (ends_in (number row) c) && is_live kind (number row) past))
      (λ row. live_said number kind row_of x c past m (number row)) (appended (declared row_of past) (new_rows c)))
      ∙ ap (λ new. filter (λ row. is_live kind (number row) (x ∷ past)) (appended (declared row_of past) new)) (sym m.row);
  found = λ id. found_step number c rows id (is_live kind id past) (l.found id) ∙ sym (live_said number kind row_of x c past m id);
  below = rw m.row (below_step number next after c (declared row_of past) fits l.below);
  ascend = rw m.row (ascend_step number next after c (declared row_of past) fits l.below l.ascend);
}

-- what holds of each element holds of those that a filter keeps
all_filter : {R : Type 0} (P : R → Type 0) (p : R → Bool) (rows : List R) → AllByRecursion P rows → AllByRecursion P (filter p rows)
all_filter P p [] all = tt
all_filter P p (row ∷ rows) all = go (p row) refl (all_filter P p rows all.1)
  where
    go : (b : Bool) → p row ≡ b → AllByRecursion P (filter p rows) → AllByRecursion P (filter p (row ∷ rows))
    go true is rest = rw is (all.0, rest)
    go false is rest = rw is rest

pub ascend_filter : {R : Type 0} (number : R → ℕ) (p : R → Bool) (rows : List R) → Ascend number rows → Ascend number (filter p rows)
ascend_filter number p [] up = tt
ascend_filter number p (row ∷ rows) up = go (p row) refl (ascend_filter number p rows up.1)
  where
    go : (b : Bool) → p row ≡ b → Ascend number (filter p rows) → Ascend number (filter p (row ∷ rows))
    go true is rest = rw is (all_filter (λ later. number row < number later) p rows up.0, rest)
    go false is rest = rw is rest

-- the numbers of a table ascend
pub table_ascends : {R : Type 0} (number : R → ℕ) (kind : Kind) (row_of : Event → Option ℕ → Option (List ℕ) → List R) (rows : List R) (next : ℕ) (past : List Entry)
    → AreRows number kind row_of rows next past → Ascend number rows
table_ascends number kind row_of rows next past l = rw l.table (ascend_filter number (λ row. is_live kind (number row) past) (declared row_of past) l.ascend)

-- a message is nothing to this session's entities
pub message_none : (message : Message) → (message_row message).to_entities ≡ NoEntity
message_none close_message = refl
message_none message = refl
