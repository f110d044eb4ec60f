-- How the open gets and their indexes go together.
use Rattle.std.proofs.Common.{◌≡◌, ℕ, ◌≤◌, Bool, false, true, List, [], ◌∷◌, ◌++◌, Option, Some, None, refl, sym, ap, ◌∙◌, subst}
use Rattle.std.specs.Prelude.{◌==◌, nat_le, not, filter, map, is_some, option_map, MatchOption, if◌then◌else◌}
use Rattle.std.specs.List.{AllByRecursion}
use Rattle.zs_rows.specs.Ascending.{Ascend, placed}
use Rattle.zs_rows.specs.Rows.{row_at, without_row, with_row, placed_row, Updates, AreNumbered, rows_of, numbers_of, first_of, row_named, EndsOne}
use Rattle.zs_rows.specs.Index.{is_marked, is_marked_up_to, under, Forgets, IsIndexOf}
use Rattle.zs_rows.specs.Numbers.{is_in}
use Rattle.zs_rows.specs.declared.mark.Mark.{Mark}
use Rattle.zs_rows.proofs.Ending.{number_found, ascend_with, all_found, rows_changed, row_rewritten, due_ends, under_ends}
use Rattle.zs_rows.proofs.Finding.{rewritten}
use Rattle.zs_rows.proofs.Indexing.{index_none, index_more, index_less, index_kept, index_same, index_as, index_free, undone}
use Rattle.zs_rows.proofs.Numbered.{row_of_number, rows_filtered, numbers_filtered, rows_placed, rows_without, rows_ascend, numbered_without, numbered_placed, numbered_with}
use Rattle.zs_rows.proofs.Listing.{due_numbers, next_named}
use Rattle.zs_rows.proofs.Ascending.{all_filter}
use Rattle.zs_query.specs.declared.open_get.OpenGet.{OpenGet}
use Rattle.zs_query.specs.declared.get_marks.GetKeys.{GetKeys}
use Rattle.zs_query.specs.declared.get_marks.GetMarks.{GetMarks}
use Rattle.zs_query.specs.Gets.{get_at, without_get, with_get, is_behind, is_due, names, first_row, end_of, end_at, ends_from, ends_at}
use Rattle.zs_query.specs.GetRows.{deadline_of, cancellation_token_of, querier_of, keys_of, NotesAll, ForgetsAll, AreSame, IsFree, AreIndexed, row_of_get}

abbrev number_of : OpenGet → ℕ
number_of g = g.row.number

-- no get, no mark
pub indexed_none : AreIndexed [] (record { deadlines = []; cancellation_tokens = []; queriers = [] })
indexed_none = record {
  numbered = tt;
  ascending = tt;
  deadlines = index_none deadline_of;
  cancellation_tokens = index_none cancellation_token_of;
  queriers = index_none querier_of;
}

-- a number that no get has stands in no index
pub free_of : (n : ℕ) (rows : List (ℕ × OpenGet)) (marks : GetMarks) → AreIndexed rows marks → is_some (row_at n rows) ≡ false → IsFree n marks
free_of n rows marks is unused = record {
  deadlines = index_free deadline_of n rows marks.deadlines unused is.deadlines;
  cancellation_tokens = index_free cancellation_token_of n rows marks.cancellation_tokens unused is.cancellation_tokens;
  queriers = index_free querier_of n rows marks.queriers unused is.queriers;
}

-- with the same marks
pub indexed_as : (rows : List (ℕ × OpenGet)) (marks marks' : GetMarks) → AreSame marks marks' → AreIndexed rows marks → AreIndexed rows marks'
indexed_as rows marks marks' same is = record {
  numbered = is.numbered;
  ascending = is.ascending;
  deadlines = index_as deadline_of rows marks.deadlines marks'.deadlines same.deadlines is.deadlines;
  cancellation_tokens = index_as cancellation_token_of rows marks.cancellation_tokens marks'.cancellation_tokens same.cancellation_tokens is.cancellation_tokens;
  queriers = index_as querier_of rows marks.queriers marks'.queriers same.queriers is.queriers;
}

-- with one get more
pub indexed_more : (g : OpenGet) (rows rows' : List (ℕ × OpenGet)) (marks marks' : GetMarks) → AreIndexed rows marks → is_some (row_at g.row.number rows) ≡ false → rows' ≡ placed_row g.row.number g rows → Updates g.row.number (Some g) rows rows' → Ascend (λ (e : ℕ × OpenGet). e.0) rows' → NotesAll (keys_of g.row) marks marks' → AreIndexed rows' marks'
indexed_more g rows rows' marks marks' is unused placed found up notes = record {
  numbered = subst (AreNumbered number_of) (sym placed) (numbered_placed number_of g.row.number g rows is.numbered refl);
  ascending = up;
  deadlines = index_more deadline_of g.row.number g rows rows' marks.deadlines marks'.deadlines unused found notes.deadlines is.deadlines;
  cancellation_tokens = index_more cancellation_token_of g.row.number g rows rows' marks.cancellation_tokens marks'.cancellation_tokens unused found notes.cancellation_tokens is.cancellation_tokens;
  queriers = index_more querier_of g.row.number g rows rows' marks.queriers marks'.queriers unused found notes.queriers is.queriers;
}

-- with one get less
pub indexed_less : (n : ℕ) (g : OpenGet) (rows rows' : List (ℕ × OpenGet)) (marks marks' : GetMarks) → AreIndexed rows marks → row_at n rows ≡ Some g → rows' ≡ without_row n rows → Updates n None rows rows' → Ascend (λ (e : ℕ × OpenGet). e.0) rows' → ForgetsAll (keys_of g.row) marks marks' → AreIndexed rows' marks'
indexed_less n g rows rows' marks marks' is there left found up forgets =
    let number = number_found number_of n g rows is.numbered there in
    record {
      numbered = subst (AreNumbered number_of) (sym left) (numbered_without number_of n rows is.numbered);
      ascending = up;
      deadlines = index_less deadline_of n g rows rows' marks.deadlines marks'.deadlines there found (subst (λ m. Forgets (deadline_of g) m marks.deadlines marks'.deadlines) number forgets.deadlines) is.deadlines;
      cancellation_tokens = index_less cancellation_token_of n g rows rows' marks.cancellation_tokens marks'.cancellation_tokens there found (subst (λ m. Forgets (cancellation_token_of g) m marks.cancellation_tokens marks'.cancellation_tokens) number forgets.cancellation_tokens) is.cancellation_tokens;
      queriers = index_less querier_of n g rows rows' marks.queriers marks'.queriers there found (subst (λ m. Forgets (querier_of g) m marks.queriers marks'.queriers) number forgets.queriers) is.queriers;
    }

-- without a get that there was none of
pub indexed_kept : (n : ℕ) (rows rows' : List (ℕ × OpenGet)) (marks : GetMarks) → AreIndexed rows marks → row_at n rows ≡ None → rows' ≡ without_row n rows → Updates n None rows rows' → Ascend (λ (e : ℕ × OpenGet). e.0) rows' → AreIndexed rows' marks
indexed_kept n rows rows' marks is none left found up = record {
  numbered = subst (AreNumbered number_of) (sym left) (numbered_without number_of n rows is.numbered);
  ascending = up;
  deadlines = index_kept deadline_of n rows rows' marks.deadlines none found is.deadlines;
  cancellation_tokens = index_kept cancellation_token_of n rows rows' marks.cancellation_tokens none found is.cancellation_tokens;
  queriers = index_kept querier_of n rows rows' marks.queriers none found is.queriers;
}

-- with a get written over that keeps its keys
pub indexed_with : (n : ℕ) (g h : OpenGet) (rows : List (ℕ × OpenGet)) (marks : GetMarks) → AreIndexed rows marks → row_at n rows ≡ Some g → keys_of h.row ≡ keys_of g.row → AreIndexed (with_row n h rows) marks
indexed_with n g h rows marks is there keys =
    let found = rewritten n h rows (ap is_some there) in
    record {
      numbered = numbered_with number_of n h rows is.numbered (ap (λ (k : GetKeys). k.number) keys ∙ number_found number_of n g rows is.numbered there);
      ascending = ascend_with n h rows is.ascending;
      deadlines = index_same deadline_of n g h rows (with_row n h rows) marks.deadlines there (ap (λ (k : GetKeys). Some k.deadline) keys) found is.deadlines;
      cancellation_tokens = index_same cancellation_token_of n g h rows (with_row n h rows) marks.cancellation_tokens there (ap (λ (k : GetKeys). k.cancellation_token) keys) found is.cancellation_tokens;
      queriers = index_same querier_of n g h rows (with_row n h rows) marks.queriers there (ap (λ (k : GetKeys). k.querier) keys) found is.queriers;
    }

-- a number's row is the get of that number
pub gets_found : (n : ℕ) (rows : List (ℕ × OpenGet)) (marks : GetMarks) → AreIndexed rows marks → row_at n rows ≡ get_at n (rows_of rows)
gets_found n rows marks is = row_of_number number_of n rows is.numbered

-- marks that were new and are taken back
pub same_again : (keys : GetKeys) (before between after : GetMarks) → IsFree keys.number before → NotesAll keys before between → ForgetsAll keys between after → AreSame before after
same_again keys before between after free notes forgets = record {
  deadlines = undone (Some keys.deadline) keys.number before.deadlines between.deadlines after.deadlines free.deadlines notes.deadlines forgets.deadlines;
  cancellation_tokens = undone keys.cancellation_token keys.number before.cancellation_tokens between.cancellation_tokens after.cancellation_tokens free.cancellation_tokens notes.cancellation_tokens forgets.cancellation_tokens;
  queriers = undone keys.querier keys.number before.queriers between.queriers after.queriers free.queriers notes.queriers forgets.queriers;
}

-- the gets after one more, one less and one changed
pub gets_placed : (g : OpenGet) (rows : List (ℕ × OpenGet)) (marks : GetMarks) → AreIndexed rows marks → rows_of (placed_row g.row.number g rows) ≡ placed number_of g.row.number (g ∷ []) (rows_of rows)
gets_placed g rows marks is = rows_placed number_of g.row.number g rows is.numbered

pub gets_without : (n : ℕ) (rows : List (ℕ × OpenGet)) (marks : GetMarks) → AreIndexed rows marks → rows_of (without_row n rows) ≡ without_get n (rows_of rows)
gets_without n rows marks is = rows_without number_of n rows is.numbered

pub gets_changed : (n : ℕ) (f : OpenGet → OpenGet) (g h : OpenGet) (rows : List (ℕ × OpenGet)) (marks : GetMarks) → AreIndexed rows marks → row_at n rows ≡ Some g → h ≡ f g → rows_of (with_row n h rows) ≡ with_get n f (rows_of rows)
gets_changed n f g h rows marks is there same = rows_changed number_of n f g h rows is.numbered is.ascending there same

pub gets_same : (n : ℕ) (g h : OpenGet) (rows : List (ℕ × OpenGet)) (marks : GetMarks) → AreIndexed rows marks → row_at n rows ≡ Some g → h ≡ g → with_row n h rows ≡ rows
gets_same n g h rows marks is there same = ap (λ (x : OpenGet). with_row n x rows) same ∙ row_rewritten n g rows is.ascending there

-- the first of the gets
pub first_is : (r : Option (ℕ × OpenGet)) (rows : List (ℕ × OpenGet)) → r ≡ first_of rows → option_map (λ (e : ℕ × OpenGet). e.1.row) r ≡ first_row (rows_of rows)
first_is r [] is = ap (option_map (λ (e : ℕ × OpenGet). e.1.row)) is
first_is r (e ∷ rows) is = ap (option_map (λ (f : ℕ × OpenGet). f.1.row)) is

pub gets_behind : (after : Option ℕ) (rows : List (ℕ × OpenGet)) (marks : GetMarks) → AreIndexed rows marks → rows_of (filter (λ (e : ℕ × OpenGet). is_behind after e.0) rows) ≡ filter (λ g. is_behind after g.row.number) (rows_of rows)
gets_behind after rows marks is = numbers_filtered number_of (is_behind after) rows is.numbered

pub gets_ascend : (rows : List (ℕ × OpenGet)) (marks : GetMarks) → AreIndexed rows marks → Ascend number_of (rows_of rows)
gets_ascend rows marks is = rows_ascend number_of rows is.numbered is.ascending

pub numbers_are : (rows : List (ℕ × OpenGet)) → AreNumbered number_of rows → numbers_of rows ≡ map number_of (rows_of rows)
numbers_are [] are = refl
numbers_are (e ∷ rows) are = λ i. sym are.0 i ∷ numbers_are rows are.1 i

-- the ends of gets that are found
ends_each : (rows es : List (ℕ × OpenGet)) → AllByRecursion (λ (e : ℕ × OpenGet). row_at e.0 rows ≡ Some e.1) es → AreNumbered number_of es → ends_from (numbers_of es) rows ≡ map end_of (rows_of es)
ends_each rows [] found are = refl
ends_each rows (e ∷ es) found are =
    ap (λ (o : Option OpenGet). end_at e.0 o ++ ends_from (numbers_of es) rows) found.0
    ∙ (λ i. (sym are.0 i, (end_of e.1).1) ∷ ends_each rows es found.1 are.1 i)

-- the ends of those that the index by deadlines hands out are those of the gets that are due
pub ends_are : (now : ℕ) (numbers : List ℕ) (rows : List (ℕ × OpenGet)) (marks : GetMarks) → AreIndexed rows marks → Ascend (λ n. n) numbers → ((n : ℕ) → is_in n numbers ≡ is_marked_up_to now n marks.deadlines) → ends_from numbers rows ≡ ends_at now (rows_of rows)
ends_are now numbers rows marks is rise members =
    ap (λ ns. ends_from ns rows) (due_numbers (λ (g : OpenGet). g.row.deadline) now numbers rows marks.deadlines is.ascending is.deadlines rise members)
    ∙ (ends_each rows (filter (λ (e : ℕ × OpenGet). nat_le e.1.row.deadline now) rows)
    (all_filter (λ (e : ℕ × OpenGet). row_at e.0 rows ≡ Some e.1) (λ (e : ℕ × OpenGet). nat_le e.1.row.deadline now) rows (all_found rows is.ascending))
    (all_filter (λ (e : ℕ × OpenGet). e.1.row.number ≡ e.0) (λ (e : ℕ × OpenGet). nat_le e.1.row.deadline now) rows is.numbered)
    ∙ ap (map end_of) (rows_filtered (λ (g : OpenGet). nat_le g.row.deadline now) rows))

-- what is found to end
pub due_get : (now : ℕ) (rows : List (ℕ × OpenGet)) (marks : GetMarks) → AreIndexed rows marks → (r : Option Mark) → MatchOption r ((n : ℕ) → is_marked_up_to now n marks.deadlines ≡ false) (λ m. (m.key ≤ now) × (first_of marks.deadlines ≡ Some m)) → EndsOne number_of (λ g. not (is_due now g)) (option_map (λ (m : Mark). m.number) r) (rows_of rows)
due_get now rows marks is r found = due_ends number_of (λ (g : OpenGet). g.row.deadline) now rows marks.deadlines is.numbered is.ascending is.deadlines r found

pub cancellation_token_get : (cancellation_token : ℕ) (rows : List (ℕ × OpenGet)) (marks : GetMarks) → AreIndexed rows marks → (r : Option ℕ) → MatchOption r ((n : ℕ) → is_marked cancellation_token n marks.cancellation_tokens ≡ false) (λ n. is_marked cancellation_token n marks.cancellation_tokens ≡ true) → EndsOne number_of (λ g. not (names cancellation_token g.row.cancellation_token)) r (rows_of rows)
cancellation_token_get cancellation_token rows marks is r found = under_ends number_of cancellation_token_of cancellation_token rows marks.cancellation_tokens is.numbered is.ascending is.cancellation_tokens r found

pub querier_get : (id : ℕ) (rows : List (ℕ × OpenGet)) (marks : GetMarks) → AreIndexed rows marks → (r : Option ℕ) → MatchOption r ((n : ℕ) → is_marked id n marks.queriers ≡ false) (λ n. is_marked id n marks.queriers ≡ true) → EndsOne number_of (λ g. not (names id g.row.querier)) r (rows_of rows)
querier_get id rows marks is r found = under_ends number_of querier_of id rows marks.queriers is.numbered is.ascending is.queriers r found

-- a get whose number is not open has no row
pub unused_row : (n : ℕ) (rows : List (ℕ × OpenGet)) (marks : GetMarks) (gets : List OpenGet) → AreIndexed rows marks → rows_of rows ≡ gets → is_some (get_at n gets) ≡ false → is_some (row_at n rows) ≡ false
unused_row n rows marks gets is same none = ap is_some (gets_found n rows marks is) ∙ (ap (λ (gs : List OpenGet). is_some (get_at n gs)) same ∙ none)

-- a get that is put in under its keys
pub indexed_put : (keys : GetKeys) (g : OpenGet) (rows rows' : List (ℕ × OpenGet)) (marks marks' : GetMarks) → keys ≡ keys_of g.row → AreIndexed rows marks → is_some (row_at keys.number rows) ≡ false → rows' ≡ placed_row keys.number g rows → Updates keys.number (Some g) rows rows' → Ascend (λ (e : ℕ × OpenGet). e.0) rows' → NotesAll keys marks marks' → AreIndexed rows' marks'
indexed_put keys g rows rows' marks marks' same is unused put found up notes = indexed_more g rows rows' marks marks' is
    (subst (λ (k : GetKeys). is_some (row_at k.number rows) ≡ false) same unused)
    (subst (λ (k : GetKeys). rows' ≡ placed_row k.number g rows) same put)
    (subst (λ (k : GetKeys). Updates k.number (Some g) rows rows') same found) up
    (subst (λ (k : GetKeys). NotesAll k marks marks') same notes)

pub gets_put : (keys : GetKeys) (g : OpenGet) (rows rows' : List (ℕ × OpenGet)) (marks : GetMarks) → keys ≡ keys_of g.row → AreIndexed rows marks → rows' ≡ placed_row keys.number g rows → rows_of rows' ≡ placed number_of g.row.number (g ∷ []) (rows_of rows)
gets_put keys g rows rows' marks same is put = ap rows_of (subst (λ (k : GetKeys). rows' ≡ placed_row k.number g rows) same put) ∙ gets_placed g rows marks is

-- a get that is taken out from under its keys
pub indexed_take : (n : ℕ) (keys : GetKeys) (g : OpenGet) (rows rows' : List (ℕ × OpenGet)) (marks marks' : GetMarks) → keys ≡ keys_of g.row → AreIndexed rows marks → row_at n rows ≡ Some g → rows' ≡ without_row n rows → Updates n None rows rows' → Ascend (λ (e : ℕ × OpenGet). e.0) rows' → ForgetsAll keys marks marks' → AreIndexed rows' marks'
indexed_take n keys g rows rows' marks marks' same is there left found up forgets = indexed_less n g rows rows' marks marks' is there left found up (subst (λ (k : GetKeys). ForgetsAll k marks marks') same forgets)

-- where no get has the number, none is changed
pub gets_none : (n : ℕ) (f : OpenGet → OpenGet) (rows : List (ℕ × OpenGet)) → AreNumbered number_of rows → row_at n rows ≡ None → with_get n f (rows_of rows) ≡ rows_of rows
gets_none n f [] are none = refl
gets_none n f (e ∷ rows) are none = go (gets_none n f rows are.1) (e.1.row.number == n) refl
  where
    some_none : Some e.1 ≡ None → ⊥
    some_none p = cc

    same : (e.0 == n) ≡ (e.1.row.number == n)
    same = ap (λ m. m == n) (sym are.0)

    go : (row_at n rows ≡ None → with_get n f (rows_of rows) ≡ rows_of rows) → (b : Bool) → (e.1.row.number == n) ≡ b → with_get n f (rows_of (e ∷ rows)) ≡ e.1 ∷ rows_of rows
    go more true here = absurd (some_none (sym (ap (λ b. if b then Some e.1 else row_at n rows) (same ∙ here)) ∙ none))
    go more false apart = rw (apart, more (sym (ap (λ b. if b then Some e.1 else row_at n rows) (same ∙ apart)) ∙ none)) refl

-- the row that a walk over the gets comes to next
pub next_row : (after : Option ℕ) (rows : List (ℕ × OpenGet)) (marks : GetMarks) (gets : List OpenGet) → AreIndexed rows marks → rows_of rows ≡ gets → (r : Option (ℕ × OpenGet)) → r ≡ first_of (filter (λ (e : ℕ × OpenGet). is_behind after e.0) rows) → option_map (λ (e : ℕ × OpenGet). e.1.row) r ≡ first_row (filter (λ (g : OpenGet). is_behind after g.row.number) gets)
next_row after rows marks gets is same r found =
    first_is r (filter (λ (e : ℕ × OpenGet). is_behind after e.0) rows) found
    ∙ (ap first_row (gets_behind after rows marks is) ∙ ap (λ (gs : List OpenGet). first_row (filter (λ (g : OpenGet). is_behind after g.row.number) gs)) same)

-- and the row that a walk over those of a cancellation token or of a querier comes to next
row_is : (r : Option OpenGet) (gets : List OpenGet) → r ≡ first_of gets → row_of_get r ≡ first_row gets
row_is r [] is = ap row_of_get is
row_is r (g ∷ gets) is = ap row_of_get is

pub next_of_key : (key_of : OpenGet → Option ℕ) (key : ℕ) (after : Option ℕ) (rows : List (ℕ × OpenGet)) (keys : List Mark) (gets : List OpenGet) (n : Option ℕ) → AreNumbered number_of rows → Ascend (λ (e : ℕ × OpenGet). e.0) rows → IsIndexOf key_of rows keys → Ascend (λ m. m) (under key keys) → rows_of rows ≡ gets → n ≡ first_of (filter (λ m. is_behind after m) (under key keys)) → row_of_get (row_named n rows) ≡ first_row (filter (λ (g : OpenGet). is_behind after g.row.number) (filter (λ (g : OpenGet). names key (key_of g)) gets))
next_of_key key_of key after rows keys gets n are up is rise same found =
    row_is (row_named n rows) (filter (λ (g : OpenGet). is_behind after g.row.number) (filter (λ (g : OpenGet). names key (key_of g)) (rows_of rows)))
    (ap (λ (o : Option ℕ). row_named o rows) found ∙ next_named number_of key_of key after rows keys are up is rise)
    ∙ ap (λ (gs : List OpenGet). first_row (filter (λ (g : OpenGet). is_behind after g.row.number) (filter (λ (g : OpenGet). names key (key_of g)) gs))) same
