-- What each call makes of the tables.
use Rattle.std.proofs.Common.{◌≡◌, ℕ, ◌<◌, Bool, true, false, List, [], ◌∷◌, ◌++◌, Option, Some, None, IsSome, Result, Ok, Err, OnOk, OnErr, refl, sym, ap, subst, ◌∙◌, arith}
use Rattle.std.specs.Prelude.{◌==◌, not, map, filter, All}
use Rattle.std.specs.Option.{option_map, ForSome}
use Rattle.std.specs.List.{AllByRecursion, find}
use Rattle.std.proofs.lemmas.Bool.Decides.{nat_tests}
use Rattle.std.proofs.lemmas.List.Elements.{recursion_from_All, All-from_recursion}
use Rattle.zs_keys.specs.Key.{Key}
use Rattle.zs_wire.specs.declared.wire_expr.Mapping.{Mapping}
use Rattle.zs_wire.specs.declared.wire_expr.Mapping.TheVariants.{Sender, Receiver}
use Rattle.zs_subscriptions.specs.declared.subscriber.SubRow.{SubRow}
use Rattle.zs_subscriptions.specs.declared.number_row.NumberRow.{NumberRow}
use Rattle.zs_subscriptions.specs.declared.key_ref.KeyRef.TheVariants.{Number}
use Rattle.zs_subscriptions.specs.Ascending.{Ascend, placed_by}
use Rattle.zs_subscriptions.specs.Numbers.{NumberedKey, key_at, placed}
use Rattle.zs_subscriptions.specs.Contents.{Contents, numbers_of, text_meant}
use Rattle.zs_subscriptions.specs.Recipients.{matches, takes, recipients, is_behind, first_behind, next_recipient, GoesOn}
use Rattle.zs_subscriptions.specs.Lists.{Listed, shown, IsAscending, held_of, held, noted, forgotten, emptied, chosen, takes_by_id, AreCurrent, AreInOrder}
use Rattle.zs_subscriptions.proofs.Ascending.{all_weaker, all_unmap, ascend_filter, ascend_push}
use Rattle.zs_subscriptions.proofs.ByKey.{kept}
use Rattle.zs_subscriptions.proofs.Keeping.{held_same, current_push, current_without, current_emptied, current_nil, current_placed, held_placed, key_of_row}
use Rattle.zs_subscriptions.proofs.Walking.{first_of_behind, first_of_numbers, matches_ascend, each_is_next}

-- tables with the same parts are the same
pub same_contents : (rows rows' : List SubRow) (own own' told told' : List NumberedKey) → rows ≡ rows' → own ≡ own' → told ≡ told' → let left : Contents = record { rows = rows; own = own; told = told } in let right : Contents = record { rows = rows'; own = own'; told = told' } in left ≡ right
same_contents rows rows' own own' told told' p q r = λ i. record { rows = p i; own = q i; told = r i }

-- what contracts see stays where only the lists change
pub held_stays : (f : Listed → Listed) → ((n : Listed) → held_of (f n) ≡ held_of n) → (numbers : List NumberRow) (new : List Listed) → new ≡ map f (map shown numbers) → map held_of new ≡ held numbers
held_stays f same numbers new is = ap (map held_of) is ∙ held_same f same (map shown numbers)

-- with one more subscriber
pub in_order_push : (row : SubRow) (rows rows' : List SubRow) (own own' told told' : List Listed) → AreInOrder rows own told → All (λ other. other.id < row.id) rows → rows' ≡ rows ++ row ∷ [] → own' ≡ map (noted row.id row.key.text) own → told' ≡ map (noted row.id row.key.text) told → AreInOrder rows' own' told'
in_order_push row rows rows' own own' told told' is above p q r = rw (p, q, r) (record {
  ascending = ascend_push (λ (other : SubRow). other.id) rows row is.ascending (recursion_from_All _ rows above);
  own_current = current_push row rows own is.own_current;
  told_current = current_push row rows told is.told_current;
})

-- without a subscriber
pub in_order_without : (id : ℕ) (rows rows' : List SubRow) (own own' told told' : List Listed) → AreInOrder rows own told → rows' ≡ filter (λ row. not (row.id == id)) rows → own' ≡ map (forgotten id) own → told' ≡ map (forgotten id) told → AreInOrder rows' own' told'
in_order_without id rows rows' own own' told told' is p q r = rw (p, q, r) (record {
  ascending = ascend_filter (λ (other : SubRow). other.id) (λ row. not (row.id == id)) rows is.ascending;
  own_current = current_without id rows own is.own_current;
  told_current = current_without id rows told is.told_current;
})

-- without subscribers and own numbers
pub in_order_cleared : (rows rows' : List SubRow) (own own' told told' : List Listed) → AreInOrder rows own told → rows' ≡ [] → own' ≡ [] → told' ≡ map emptied told → AreInOrder rows' own' told'
in_order_cleared rows rows' own own' told told' is p q r = rw (p, q, r) (record {
  ascending = tt;
  own_current = current_nil [];
  told_current = current_emptied rows told is.told_current;
})

-- the rows of a mapping are current
current_chosen : (mapping : Mapping) (rows : List SubRow) (own told : List NumberRow) → AreInOrder rows (map shown own) (map shown told) → AreCurrent rows (map shown (chosen mapping own told))
current_chosen Receiver rows own told is = is.own_current
current_chosen Sender rows own told is = is.told_current

-- the key of the row that is found
pub key_found : (mapping : Mapping) (number : ℕ) (rows : List SubRow) (own told : List NumberRow) → option_map (λ row. row.key) (find (λ row. row.number == number) (chosen mapping own told)) ≡ key_at number (numbers_of mapping (record { rows = rows; own = held own; told = held told }))
key_found Receiver number rows own told = sym (key_of_row number own)
key_found Sender number rows own told = sym (key_of_row number told)

-- what holds of each shown row holds of the one that is found
all_found : (P : Listed → Type 0) (number : ℕ) (row : NumberRow) (numbers : List NumberRow) → AllByRecursion P (map shown numbers) → find (λ row. row.number == number) numbers ≡ Some row → P (shown row)
all_found P number row [] all found = absurd (cc)
all_found P number row (first ∷ numbers) all found = go (first.number == number) refl (all_found P number row numbers all.1)
  where
    go : (b : Bool) → (first.number == number) ≡ b → (find (λ row. row.number == number) numbers ≡ Some row → P (shown row)) → P (shown row)
    go true is ih = let same : first ≡ row = let there = rw is at found in cc in subst (λ (r : NumberRow). P (shown r)) same all.0
    go false is ih = ih (rw is at found)

-- its list is that of its key
list_of_found : (mapping : Mapping) (number : ℕ) (rows : List SubRow) (own told : List NumberRow) (row : NumberRow) → AreInOrder rows (map shown own) (map shown told) → find (λ row. row.number == number) (chosen mapping own told) ≡ Some row → row.matches.items ≡ matches row.key.text rows
list_of_found mapping number rows own told row is found =
    all_found (λ (n : Listed). n.matches ≡ matches n.key.text rows) number row (chosen mapping own told) (current_chosen mapping rows own told is).current found

-- the list of the row that is found
pub matches_found : (mapping : Mapping) (number : ℕ) (rows : List SubRow) (own told : List NumberRow) (row : NumberRow) → AreInOrder rows (map shown own) (map shown told) → Some row ≡ find (λ row. row.number == number) (chosen mapping own told) → Some row.matches.items ≡ option_map (λ key. matches key.text rows) (key_at number (numbers_of mapping (record { rows = rows; own = held own; told = held told })))
matches_found mapping number rows own told row is found =
    ap Some (list_of_found mapping number rows own told row is (sym found))
    ∙ ap (option_map (λ (key : Key). matches key.text rows)) (ap (option_map (λ (row : NumberRow). row.key)) found ∙ key_found mapping number rows own told)

-- the list of the row that is found ascends
pub list_ascends : (mapping : Mapping) (number : ℕ) (rows : List SubRow) (own told : List NumberRow) (row : NumberRow) → AreInOrder rows (map shown own) (map shown told) → Some row ≡ find (λ row. row.number == number) (chosen mapping own told) → Ascend (λ id. id) row.matches.items
list_ascends mapping number rows own told row is found =
    rw (list_of_found mapping number rows own told row is (sym found)) (matches_ascend row.key.text rows is.ascending)

-- by number the first behind the last one that takes it is the next recipient
pub next_by_number : (mapping : Mapping) (number : ℕ) (local : Bool) (after : Option ℕ) (rows : List SubRow) (own told : List NumberRow) (row : NumberRow) → AreInOrder rows (map shown own) (map shown told) → Some row ≡ find (λ row. row.number == number) (chosen mapping own told) → ForSome (text_meant (Number mapping number) (record { rows = rows; own = held own; told = held told })) (λ text. find (takes_by_id local rows) (filter (is_behind after) row.matches.items) ≡ next_recipient local text after rows)
next_by_number mapping number local after rows own told row is found text meant =
    let by_key : option_map (λ (key : Key). key.text) (Some row.key) ≡ Some text = ap (option_map (λ (key : Key). key.text)) (ap (option_map (λ (row : NumberRow). row.key)) found ∙ key_found mapping number rows own told) ∙ meant in
    let same : row.key.text ≡ text = cc in
    rw (list_of_found mapping number rows own told row is (sym found))
    (subst (λ (t : List ℕ). find (takes_by_id local rows) (filter (is_behind after) (matches row.key.text rows)) ≡ next_recipient local t after rows) same (first_of_numbers local row.key.text after rows is.ascending))

-- a number that no row has has no text
pub unknown : (mapping : Mapping) (number : ℕ) (rows : List SubRow) (own told : List NumberRow) → None ≡ find (λ row. row.number == number) (chosen mapping own told) → IsSome (text_meant (Number mapping number) (record { rows = rows; own = held own; told = held told })) → ⊥
unknown mapping number rows own told found some =
    let none : None ≡ key_at number (numbers_of mapping (record { rows = rows; own = held own; told = held told })) = ap (option_map (λ (row : NumberRow). row.key)) found ∙ key_found mapping number rows own told in
    let there = rw (← none) at some in
    grind (arith, there)

-- nor has it a key
pub no_key : (mapping : Mapping) (number : ℕ) (rows : List SubRow) (own told : List NumberRow) → None ≡ find (λ row. row.number == number) (chosen mapping own told) → IsSome (key_at number (numbers_of mapping (record { rows = rows; own = held own; told = held told }))) → ⊥
no_key mapping number rows own told found some =
    let none : None ≡ key_at number (numbers_of mapping (record { rows = rows; own = held own; told = held told })) = ap (option_map (λ (row : NumberRow). row.key)) found ∙ key_found mapping number rows own told in
    let there = rw (← none) at some in
    grind (arith, there)

-- of its list those that take it are the recipients
pub listed_takers : (mapping : Mapping) (number : ℕ) (local : Bool) (rows : List SubRow) (own told : List NumberRow) (row : NumberRow) (out : List ℕ) → AreInOrder rows (map shown own) (map shown told) → Some row ≡ find (λ row. row.number == number) (chosen mapping own told)
    → out ≡ filter (takes_by_id local rows) row.matches.items
    → ForSome (key_at number (numbers_of mapping (record { rows = rows; own = held own; told = held told }))) (λ key. out ≡ recipients local key.text rows)
listed_takers mapping number local rows own told row out is found taken key meant =
    let listed : Some row.matches.items ≡ Some (matches key.text rows) = matches_found mapping number rows own told row is found ∙ ap (option_map (λ (k : Key). matches k.text rows)) meant in
    let same : row.matches.items ≡ matches key.text rows = cc in
    kept (λ (r : SubRow). r.id) (λ r. r.key.text) (λ r. takes local r.origin) key.text rows row.matches.items out is.ascending same taken

-- by text the first of the rows behind the last one is the next recipient
pub next_by_text : (local : Bool) (own_text text : List ℕ) (after : Option ℕ) (rows : List SubRow) → Some own_text ≡ Some text → first_behind None (recipients local own_text (filter (λ row. is_behind after row.id) rows)) ≡ next_recipient local text after rows
next_by_text local own_text text after rows meant =
    let same : own_text ≡ text = cc in
    first_of_behind local own_text after rows ∙ ap (λ (t : List ℕ). next_recipient local t after rows) same

-- the numbers with one more that fits are current, and so are those that were
pub current_set : {E : Type 0} (r : Result (Unit {0}) E) (new : NumberRow) (rows : List SubRow) (old items : List NumberRow) → AreCurrent rows (map shown old) → new.matches.items ≡ matches new.key.text rows → OnOk r (items ≡ placed_by (λ row. row.number) new old) → OnErr r (items ≡ old) → AreCurrent rows (map shown items)
current_set (Ok u) new rows old items is fits ok err = rw ok (current_placed new rows old is fits)
current_set (Err e) new rows old items is fits ok err = rw err is

-- what contracts see of the parts
abbrev pub seen : List SubRow → List NumberRow → List NumberRow → Contents
seen rows own told = record { rows = rows; own = held own; told = held told }

pub own_set : {E : Type 0} (r : Result (Unit {0}) E) (new : NumberRow) (rows : List SubRow) (own own' told : List NumberRow) → OnOk r (own' ≡ placed_by (λ row. row.number) new own) → OnOk r (seen rows own' told ≡ record (seen rows own told) { own = placed (held_of (shown new)) (held own) })
own_set (Ok u) new rows own own' told ok = same_contents _ _ _ _ _ _ refl (ap held ok ∙ held_placed new own) refl
own_set (Err e) new rows own own' told ok = tt

pub told_set : {E : Type 0} (r : Result (Unit {0}) E) (new : NumberRow) (rows : List SubRow) (own told told' : List NumberRow) → OnOk r (told' ≡ placed_by (λ row. row.number) new told) → OnOk r (seen rows own told' ≡ record (seen rows own told) { told = placed (held_of (shown new)) (held told) })
told_set (Ok u) new rows own told told' ok = same_contents _ _ _ _ _ _ refl refl (ap held ok ∙ held_placed new told)
told_set (Err e) new rows own told told' ok = tt

-- from each next recipient the walk goes on
pub goes_on : (meant : Option (List ℕ)) (local : Bool) (after next : Option ℕ) (rows : List SubRow) → Ascend (λ row. row.id) rows → ForSome meant (λ text. next ≡ next_recipient local text after rows) → ForSome meant (λ text. GoesOn local text after rows next)
goes_on meant local after next rows up is text for = subst (λ (n : Option ℕ). GoesOn local text after rows n) (sym (is text for)) (each_is_next local text after rows up)

-- all lists ascend
pub lists_ascend : (rows : List SubRow) (numbers : List NumberRow) → Ascend (λ row. row.id) rows → AreCurrent rows (map shown numbers) → All IsAscending numbers
lists_ascend rows numbers up is =
    All-from_recursion IsAscending numbers
    (all_weaker (λ (row : NumberRow). row.matches.items ≡ matches row.key.text rows) IsAscending (λ row is. rw is (matches_ascend row.key.text rows up)) numbers
    (all_unmap (λ (n : Listed). n.matches ≡ matches n.key.text rows) shown numbers is.current))

found_last : (row : SubRow) (rows : List SubRow) → AllByRecursion (λ other. other.id < row.id) rows → find (λ other. other.id == row.id) (rows ++ row ∷ []) ≡ Some row
found_last row [] above = grind (arith, nat_tests)
found_last row (first ∷ rows) above = grind (arith, nat_tests, above.0, found_last row rows above.1)

-- a subscriber behind all others is found by its id
pub last_is : (row found : SubRow) (rows rows' : List SubRow) → All (λ other. other.id < row.id) rows → rows' ≡ rows ++ row ∷ [] → Some found ≡ find (λ other. other.id == row.id) rows' → found ≡ row
last_is row found rows rows' above is there =
    let same : Some found ≡ Some row = there ∙ ap (find (λ (other : SubRow). other.id == row.id)) is ∙ found_last row rows (recursion_from_All (λ (other : SubRow). other.id < row.id) rows above) in
    cc

pub last_there : (row : SubRow) (rows rows' : List SubRow) → All (λ other. other.id < row.id) rows → rows' ≡ rows ++ row ∷ [] → None ≡ find (λ other. other.id == row.id) rows' → ⊥
last_there row rows rows' above is none =
    let some : None ≡ Some row = none ∙ ap (find (λ (other : SubRow). other.id == row.id)) is ∙ found_last row rows (recursion_from_All (λ (other : SubRow). other.id < row.id) rows above) in
    cc
