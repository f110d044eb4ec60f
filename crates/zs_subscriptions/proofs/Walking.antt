-- A walk over the recipients.
use Rattle.std.proofs.Common.{◌≡◌, ℕ, zero, suc, ◌<◌, ◌≤◌, Bool, true, false, List, [], ◌∷◌, Option, Some, None, length, MatchOption, refl, sym, ap, subst, ◌∙◌, arith}
use Rattle.std.specs.Prelude.{◌==◌, ◌&&◌, ◌||◌, nat_lt, filter, not, IsTrue, if◌then◌else◌}
use Rattle.std.specs.List.{AllByRecursion, find, list_any}
use Rattle.std.proofs.lemmas.Bool.Decides.{nat_tests}
use Rattle.std.proofs.lemmas.List.{nil_from_length, length-map}
use Rattle.std.proofs.lemmas.List.Filters.{length-filter_both}
use Rattle.zs_keys.specs.Matching.{intersects}
use Rattle.zs_subscriptions.specs.declared.subscriber.SubRow.{SubRow}
use Rattle.zs_subscriptions.specs.Ascending.{Ascend}
use Rattle.zs_subscriptions.specs.Recipients.{matches, takes, receives, recipients, is_behind, first_behind, next_recipient, onward, left_behind}
use Rattle.zs_subscriptions.specs.Lists.{takes_by_id}
use Rattle.zs_subscriptions.specs.Laws.{NextIsLeast, EachIsNext, WalkVisitsAll, MatchesAscend, is_next, visited}
use Rattle.zs_subscriptions.proofs.Ascending.{all_weaker, all_both, ascend_map, ascend_filter}
use Rattle.zs_subscriptions.proofs.ByKey.{passes_of_row}
use Rattle.zs_subscriptions.proofs.Searching.{all_behind}

-- of the rows behind the last one, the first that receives is the next recipient
pub first_of_behind : (local : Bool) (text : List ℕ) (after : Option ℕ) (rows : List SubRow) → first_behind None (recipients local text (filter (λ row. is_behind after row.id) rows)) ≡ next_recipient local text after rows
first_of_behind local text after [] = refl
first_of_behind local text after (row ∷ rows) = grind (arith, nat_tests, first_of_behind local text after rows)

-- of the ids of all that match, the first behind the last one whose subscriber takes it is the next recipient
first_of_matches : (local : Bool) (text : List ℕ) (after : Option ℕ) (all rows : List SubRow) → AllByRecursion (λ row. takes_by_id local all row.id ≡ takes local row.origin) rows → find (takes_by_id local all) (filter (is_behind after) (matches text rows)) ≡ next_recipient local text after rows
first_of_matches local text after all [] each = refl
first_of_matches local text after all (row ∷ rows) each = grind (arith, nat_tests, each.0, first_of_matches local text after all rows each.1)

-- by its id a row is found
takes_of_row : (local : Bool) (rows : List SubRow) → Ascend (λ row. row.id) rows → AllByRecursion (λ row. takes_by_id local rows row.id ≡ takes local row.origin) rows
takes_of_row local rows up = passes_of_row (λ row. row.id) (λ row. takes local row.origin) rows up

pub first_of_numbers : (local : Bool) (text : List ℕ) (after : Option ℕ) (rows : List SubRow) → Ascend (λ row. row.id) rows → find (takes_by_id local rows) (filter (is_behind after) (matches text rows)) ≡ next_recipient local text after rows
first_of_numbers local text after rows up = first_of_matches local text after rows rows (takes_of_row local rows up)

-- a test that each element passes keeps them all
keeps_all : {X : Type 0} (p : X → Bool) (xs : List X) → AllByRecursion (λ x. p x ≡ true) xs → filter p xs ≡ xs
keeps_all p [] all = refl
keeps_all p (x ∷ xs) all = grind (arith, nat_tests, all.0, keeps_all p xs all.1)

-- what holds of each id holds of the first that is behind the last one
first_has : (P : ℕ → Type 0) (after : Option ℕ) (ids : List ℕ) → AllByRecursion P ids → (id : ℕ) → first_behind after ids ≡ Some id → P id
first_has P after [] all id found = absurd (cc)
first_has P after (first ∷ ids) all id found = go (is_behind after first) refl (first_has P after ids all.1 id)
  where
    go : (b : Bool) → is_behind after first ≡ b → (first_behind after ids ≡ Some id → P id) → P id
    go true is ih = let same : first ≡ id = let there = rw is at found in cc in subst P same all.0
    go false is ih = ih (rw is at found)

-- what is above one that is behind is behind
behind_more : (after : Option ℕ) (id later : ℕ) → is_behind after id ≡ true → id < later → is_behind after later ≡ true
behind_more None id later is lt = refl
behind_more (Some after) id later is lt = grind (arith, nat_tests, is, lt)

-- of ascending ids what is left is the next one, and what is left behind it
pub ids_next : (after : Option ℕ) (ids : List ℕ) → Ascend (λ id. id) ids → filter (is_behind after) ids ≡ onward (λ id. filter (is_behind (Some id)) ids) (first_behind after ids)
ids_next after [] up = refl
ids_next after (id ∷ ids) up = go (is_behind after id) refl (first_behind after ids) refl (ids_next after ids up.1)
  where
    above : (p : ℕ → Bool) → ((later : ℕ) → id < later → p later ≡ true) → filter p ids ≡ ids
    above p f = keeps_all p ids (all_weaker (λ later. id < later) (λ later. p later ≡ true) f ids up.0)

    go : (b : Bool) → is_behind after id ≡ b → (next : Option ℕ) → first_behind after ids ≡ next → filter (is_behind after) ids ≡ onward (λ id. filter (is_behind (Some id)) ids) (first_behind after ids) → filter (is_behind after) (id ∷ ids) ≡ onward (λ id'. filter (is_behind (Some id')) (id ∷ ids)) (first_behind after (id ∷ ids))
    go true is next found ih =
        let front = above (is_behind after) (λ later lt. behind_more after id later is lt) in
        let rest = above (is_behind (Some id)) (λ later lt. grind (arith, nat_tests, lt)) in
        let not_above : nat_lt id id ≡ false = grind (arith, nat_tests) in
        rw (is, not_above, front, rest) refl
    go false is None found ih = rw (is, found) (rw found at ih)
    go false is (Some next) found ih =
        let lt : id < next = first_has (λ later. id < later) after ids up.0 next found in
        let below : nat_lt next id ≡ false = grind (arith, nat_tests, lt) in
        rw (is, found, below) (rw found at ih)

pub matches_ascend : MatchesAscend
matches_ascend text rows up = ascend_map (λ (id : ℕ). id) (λ (row : SubRow). row.id) (filter (λ row. intersects text row.key.text) rows) (ascend_filter (λ (row : SubRow). row.id) (λ row. intersects text row.key.text) rows up)

-- the recipients ascend
recipients_ascend : (local : Bool) (text : List ℕ) (rows : List SubRow) → Ascend (λ row. row.id) rows → Ascend (λ id. id) (recipients local text rows)
recipients_ascend local text rows up = ascend_map (λ (id : ℕ). id) (λ (row : SubRow). row.id) (filter (receives local text) rows) (ascend_filter (λ (row : SubRow). row.id) (receives local text) rows up)

pub each_is_next : EachIsNext
each_is_next local text None rows up = all_behind (λ (id : ℕ). id) (recipients local text rows) ∙ ids_next None (recipients local text rows) (recipients_ascend local text rows up)
each_is_next local text (Some after) rows up = ids_next (Some after) (recipients local text rows) (recipients_ascend local text rows up)

-- a walk of enough steps visits all that is left
walk_visits : (local : Bool) (text : List ℕ) (rows : List SubRow) → Ascend (λ row. row.id) rows → (steps : ℕ) (after : Option ℕ) → length (left_behind local text after rows) ≤ steps → visited (λ after. next_recipient local text after rows) steps after ≡ left_behind local text after rows
walk_visits local text rows up zero after short = sym (nil_from_length (left_behind local text after rows) (omega (arith, short)))
walk_visits local text rows up (suc steps) after short = go (next_recipient local text after rows) refl (each_is_next local text after rows up) (walk_visits local text rows up steps)
  where
    go : (next : Option ℕ) → next_recipient local text after rows ≡ next → left_behind local text after rows ≡ onward (λ id. left_behind local text (Some id) rows) (next_recipient local text after rows)
        → ((after : Option ℕ) → length (left_behind local text after rows) ≤ steps → visited (λ after. next_recipient local text after rows) steps after ≡ left_behind local text after rows)
        → visited (λ after. next_recipient local text after rows) (suc steps) after ≡ left_behind local text after rows
    go None found is ih = rw found (sym (rw found at is))
    go (Some id) found is ih =
        let all : left_behind local text after rows ≡ id ∷ left_behind local text (Some id) rows = rw found at is in
        let long = ap length all in
        rw found (ap (λ rest. id ∷ rest) (ih (Some id) (omega (arith, long, short))) ∙ sym all)

pub walk_visits_all : WalkVisitsAll
walk_visits_all local text rows up =
    walk_visits local text rows up (length rows) None (omega (arith, length-map (filter (receives local text) rows) (λ (row : SubRow). row.id), length-filter_both (receives local text) (λ row. not (receives local text row)) (λ row. refl) rows))

-- the next recipient of one more row
first_more : (local : Bool) (text : List ℕ) (after : Option ℕ) (row : SubRow) (rows : List SubRow) → next_recipient local text after (row ∷ rows) ≡ (if is_next local text after row then Some row.id else next_recipient local text after rows)
first_more local text after row rows = grind (arith, nat_tests)

or_right : (a b : Bool) → b ≡ true → (a || b) ≡ true
or_right true b holds = refl
or_right false b holds = holds

pub next_is_least : NextIsLeast
next_is_least local text after [] up = tt
next_is_least local text after (row ∷ rows) up = go (is_next local text after row) refl (next_recipient local text after rows) refl (next_is_least local text after rows up.1)
  where
    go : (b : Bool) → is_next local text after row ≡ b → (next : Option ℕ) → next_recipient local text after rows ≡ next
        → MatchOption (next_recipient local text after rows)
        (AllByRecursion (λ row. is_next local text after row ≡ false) rows)
        (λ id. IsTrue (list_any (λ row. row.id == id && is_next local text after row) rows)
        × AllByRecursion (λ row. IsTrue (is_next local text after row) → id ≤ row.id) rows)
        → MatchOption (next_recipient local text after (row ∷ rows))
        (AllByRecursion (λ row. is_next local text after row ≡ false) (row ∷ rows))
        (λ id. IsTrue (list_any (λ row. row.id == id && is_next local text after row) (row ∷ rows))
        × AllByRecursion (λ row. IsTrue (is_next local text after row) → id ≤ row.id) (row ∷ rows))
    go true is next found ih =
        rw (first_more local text after row rows, is) (grind (arith, nat_tests, is), ((λ _. omega arith), all_weaker (λ later. row.id < later.id) (λ later. IsTrue (is_next local text after later) → row.id ≤ later.id) (λ later lt _. omega (arith, lt)) rows up.0))
    go false is None found ih = rw (first_more local text after row rows, is, found) (refl, rw found at ih)
    go false is (Some id) found ih =
        let rest = rw found at ih in
        rw (first_more local text after row rows, is, found) (or_right _ _ rest.0, ((λ yes. absurd (cc)), rest.1))
