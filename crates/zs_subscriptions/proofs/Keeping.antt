-- The lists of the numbers stay those of the rows.
use Rattle.std.proofs.Common.{◌≡◌, ℕ, List, [], ◌∷◌, ◌++◌, refl, arith}
use Rattle.std.specs.Prelude.{◌==◌, not, map, filter, if◌then◌else◌}
use Rattle.std.specs.Option.{option_map, is_some}
use Rattle.std.specs.List.{find, list_any}
use Rattle.std.proofs.lemmas.Bool.Decides.{nat_tests}
use Rattle.zs_keys.specs.Matching.{intersects}
use Rattle.zs_subscriptions.specs.declared.subscriber.SubRow.{SubRow}
use Rattle.zs_subscriptions.specs.declared.number_row.NumberRow.{NumberRow}
use Rattle.zs_subscriptions.specs.Ascending.{placed_by}
use Rattle.zs_subscriptions.specs.Numbers.{key_at, placed, without}
use Rattle.zs_subscriptions.specs.Recipients.{matches}
use Rattle.zs_subscriptions.specs.Lists.{Listed, shown, held_of, held, noted, forgotten, emptied, AreCurrent}
use Rattle.zs_subscriptions.proofs.Ascending.{all_map, all_filter, all_placed, ascend_map, ascend_filter, ascend_placed}

-- the list of a text with one more row
matches_push : (text : List ℕ) (row : SubRow) (rows : List SubRow) → (if intersects text row.key.text then matches text rows ++ row.id ∷ [] else matches text rows) ≡ matches text (rows ++ row ∷ [])
matches_push text row [] = grind (arith, nat_tests)
matches_push text row (first ∷ rows) = grind (arith, nat_tests, matches_push text row rows)

-- the list of a text without a row
matches_without : (text : List ℕ) (id : ℕ) (rows : List SubRow) → filter (λ other. not (other == id)) (matches text rows) ≡ matches text (filter (λ row. not (row.id == id)) rows)
matches_without text id [] = refl
matches_without text id (first ∷ rows) = grind (arith, nat_tests, matches_without text id rows)

-- a change of the lists alone shows nothing
pub held_same : (f : Listed → Listed) → ((n : Listed) → held_of (f n) ≡ held_of n) → (numbers : List Listed) → map held_of (map f numbers) ≡ map held_of numbers
held_same f same [] = refl
held_same f same (n ∷ numbers) = grind (arith, same n, held_same f same numbers)

-- with one more row
pub current_push : (row : SubRow) (rows : List SubRow) (numbers : List Listed) → AreCurrent rows numbers → AreCurrent (rows ++ row ∷ []) (map (noted row.id row.key.text) numbers)
current_push row rows numbers is = record {
  ascending = ascend_map (λ (n : Listed). n.number) (noted row.id row.key.text) numbers is.ascending;
  current = all_map (λ (n : Listed). n.matches ≡ matches n.key.text rows) (λ (n : Listed). n.matches ≡ matches n.key.text (rows ++ row ∷ [])) (noted row.id row.key.text) (λ n was. rw was (matches_push n.key.text row rows)) numbers is.current;
}

-- without a row
pub current_without : (id : ℕ) (rows : List SubRow) (numbers : List Listed) → AreCurrent rows numbers → AreCurrent (filter (λ row. not (row.id == id)) rows) (map (forgotten id) numbers)
current_without id rows numbers is = record {
  ascending = ascend_map (λ (n : Listed). n.number) (forgotten id) numbers is.ascending;
  current = all_map (λ (n : Listed). n.matches ≡ matches n.key.text rows) (λ (n : Listed). n.matches ≡ matches n.key.text (filter (λ row. not (row.id == id)) rows)) (forgotten id) (λ n was. rw was (matches_without n.key.text id rows)) numbers is.current;
}

-- without any row
pub current_emptied : (rows : List SubRow) (numbers : List Listed) → AreCurrent rows numbers → AreCurrent [] (map emptied numbers)
current_emptied rows numbers is = record {
  ascending = ascend_map (λ (n : Listed). n.number) emptied numbers is.ascending;
  current = all_map (λ (n : Listed). n.matches ≡ matches n.key.text rows) (λ (n : Listed). n.matches ≡ matches n.key.text []) emptied (λ n was. refl) numbers is.current;
}

-- without numbers
pub current_nil : (rows : List SubRow) → AreCurrent rows []
current_nil rows = record { ascending = tt; current = tt }

-- placing, and then the rows as they are shown
shown_placed : (new : NumberRow) (numbers : List NumberRow) → map shown (placed_by (λ row. row.number) new numbers) ≡ placed_by (λ n. n.number) (shown new) (map shown numbers)
shown_placed new [] = refl
shown_placed new (row ∷ numbers) = grind (arith, nat_tests, shown_placed new numbers)

-- with one more number
pub current_placed : (new : NumberRow) (rows : List SubRow) (numbers : List NumberRow) → AreCurrent rows (map shown numbers) → new.matches.items ≡ matches new.key.text rows → AreCurrent rows (map shown (placed_by (λ row. row.number) new numbers))
current_placed new rows numbers is fits = rw (shown_placed new numbers) (record {
  ascending = ascend_placed (λ (n : Listed). n.number) (shown new) (map shown numbers) is.ascending;
  current = all_placed (λ (n : Listed). n.matches ≡ matches n.key.text rows) (λ (n : Listed). n.number) (shown new) (map shown numbers) is.current fits;
})

-- leaving out, and then the rows as they are shown
shown_filter : (number : ℕ) (numbers : List NumberRow) → map shown (filter (λ row. not (row.number == number)) numbers) ≡ filter (λ n. not (n.number == number)) (map shown numbers)
shown_filter number [] = refl
shown_filter number (row ∷ numbers) = grind (arith, nat_tests, shown_filter number numbers)

-- without a number
pub current_filter : (number : ℕ) (rows : List SubRow) (numbers : List NumberRow) → AreCurrent rows (map shown numbers) → AreCurrent rows (map shown (filter (λ row. not (row.number == number)) numbers))
current_filter number rows numbers is = rw (shown_filter number numbers) (record {
  ascending = ascend_filter (λ (n : Listed). n.number) (λ n. not (n.number == number)) (map shown numbers) is.ascending;
  current = all_filter (λ (n : Listed). n.matches ≡ matches n.key.text rows) (λ n. not (n.number == number)) (map shown numbers) is.current;
})

-- what contracts see of a placed number
pub held_placed : (new : NumberRow) (numbers : List NumberRow) → held (placed_by (λ row. row.number) new numbers) ≡ placed (held_of (shown new)) (held numbers)
held_placed new [] = refl
held_placed new (row ∷ numbers) = grind (arith, nat_tests, held_placed new numbers)

-- and of one that is left out
pub held_without : (number : ℕ) (numbers : List NumberRow) → held (filter (λ row. not (row.number == number)) numbers) ≡ without number (held numbers)
held_without number [] = refl
held_without number (row ∷ numbers) = grind (arith, nat_tests, held_without number numbers)

-- the key of a number is that of its row
pub key_of_row : (number : ℕ) (numbers : List NumberRow) → key_at number (held numbers) ≡ option_map (λ row. row.key) (find (λ row. row.number == number) numbers)
key_of_row number [] = refl
key_of_row number (row ∷ numbers) = grind (arith, nat_tests, key_of_row number numbers)

-- a number has a key where a row has it
pub has_key : (number : ℕ) (numbers : List NumberRow) → list_any (λ row. row.number == number) numbers ≡ is_some (key_at number (held numbers))
has_key number [] = refl
has_key number (row ∷ numbers) = grind (arith, nat_tests, has_key number numbers)
