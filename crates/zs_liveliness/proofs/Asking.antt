-- How the open liveliness gets and their indexes go together.
use Rattle.std.proofs.Common.{◌≡◌, ℕ, ◌≤◌, Bool, false, true, List, [], ◌∷◌, Option, Some, None, refl, sym, ap, ◌∙◌, subst}
use Rattle.std.specs.Prelude.{◌==◌, nat_le, not, filter, map, is_some, option_map, MatchOption}
use Rattle.std.specs.List.{list_any}
use Rattle.zs_rows.specs.Ascending.{Ascend}
use Rattle.zs_rows.specs.Rows.{row_at, without_row, with_row, placed_row, Updates, AreNumbered, rows_of, numbers_of, first_of, EndsOne}
use Rattle.zs_rows.specs.Index.{is_marked, is_marked_up_to, names, row_names, under, Forgets}
use Rattle.zs_rows.specs.Numbers.{is_in}
use Rattle.zs_rows.specs.declared.mark.Mark.{Mark}
use Rattle.zs_rows.proofs.Ending.{number_found, ascend_with, due_ends, under_ends}
use Rattle.zs_rows.proofs.Indexing.{index_none, index_more, index_less, index_kept, index_as, index_free, undone}
use Rattle.zs_rows.proofs.Numbered.{row_of_number, rows_filtered, rows_placed, rows_with, rows_without, rows_ascend, numbered_without, numbered_placed, numbered_with}
use Rattle.zs_rows.proofs.Listing.{due_numbers, under_is}
use Rattle.zs_rows.proofs.Ascending.{all_filter}
use Rattle.zs_keyed.specs.Ascending.{placed_by}
use Rattle.zs_keyed.proofs.Ascending.{none_has, placed_is}
use Rattle.zs_keyed.proofs.Numbered.{any_at}
use Rattle.zs_keyed.proofs.Placing.{written_is}
use Rattle.zs_liveliness.specs.declared.liveliness_get.LivelinessGet.{LivelinessGet}
use Rattle.zs_liveliness.specs.declared.asking_marks.AskingKeys.{AskingKeys}
use Rattle.zs_liveliness.specs.declared.asking_marks.AskingMarks.{AskingMarks}
use Rattle.zs_liveliness.specs.LivelinessGets.{is_asking, with_liveliness_get, without_liveliness_get, is_over, over_at, is_own, numbers_with}
use Rattle.zs_liveliness.specs.Asking.{deadline_of, cancellation_token_of, keys_of, MovesTo, NotesAll, ForgetsAll, StandsAll, MovesAll, AreSame, IsFree, AreIndexed}
use Rattle.zs_liveliness.proofs.Marks.{index_moved}

abbrev number_of : LivelinessGet → ℕ
number_of g = g.number

-- no get, no mark
pub indexed_none : AreIndexed [] (record { deadlines = []; cancellation_tokens = [] })
indexed_none = record {
  numbered = tt;
  ascending = tt;
  deadlines = index_none deadline_of;
  cancellation_tokens = index_none cancellation_token_of;
}

-- a get is asking where it is found
pub asking_at : (n : ℕ) (rows : List (ℕ × LivelinessGet)) (marks : AskingMarks) (gets : List LivelinessGet) → AreIndexed rows marks → rows_of rows ≡ gets → is_some (row_at n rows) ≡ is_asking n gets
asking_at n rows marks gets is same = any_at number_of n rows is.numbered ∙ ap (list_any (λ g. g.number == n)) same

-- a number that no get has stands in no index
pub free_of : (n : ℕ) (rows : List (ℕ × LivelinessGet)) (marks : AskingMarks) → AreIndexed rows marks → is_some (row_at n rows) ≡ false → IsFree n marks
free_of n rows marks is unused = record {
  deadlines = index_free deadline_of n rows marks.deadlines unused is.deadlines;
  cancellation_tokens = index_free cancellation_token_of n rows marks.cancellation_tokens unused is.cancellation_tokens;
}

-- with the same marks
pub indexed_as : (rows : List (ℕ × LivelinessGet)) (marks marks' : AskingMarks) → AreSame marks marks' → AreIndexed rows marks → AreIndexed rows marks'
indexed_as rows marks marks' same is = record {
  numbered = is.numbered;
  ascending = is.ascending;
  deadlines = index_as deadline_of rows marks.deadlines marks'.deadlines same.deadlines is.deadlines;
  cancellation_tokens = index_as cancellation_token_of rows marks.cancellation_tokens marks'.cancellation_tokens same.cancellation_tokens is.cancellation_tokens;
}

-- marks that were new and are taken back
pub same_again : (keys : AskingKeys) (before between after : AskingMarks) → IsFree keys.number before → NotesAll keys before between → ForgetsAll keys between after → AreSame before after
same_again keys before between after free notes forgets = record {
  deadlines = undone (Some keys.deadline) keys.number before.deadlines between.deadlines after.deadlines free.deadlines notes.deadlines forgets.deadlines;
  cancellation_tokens = undone keys.cancellation_token keys.number before.cancellation_tokens between.cancellation_tokens after.cancellation_tokens free.cancellation_tokens notes.cancellation_tokens forgets.cancellation_tokens;
}

-- with one get more
indexed_more : (g : LivelinessGet) (rows rows' : List (ℕ × LivelinessGet)) (marks marks' : AskingMarks) → AreIndexed rows marks → is_some (row_at g.number rows) ≡ false → rows' ≡ placed_row g.number g rows → Updates g.number (Some g) rows rows' → Ascend (λ (e : ℕ × LivelinessGet). e.0) rows' → NotesAll (keys_of g) marks marks' → AreIndexed rows' marks'
indexed_more g rows rows' marks marks' is unused placed found up notes = record {
  numbered = subst (AreNumbered number_of) (sym placed) (numbered_placed number_of g.number g rows is.numbered refl);
  ascending = up;
  deadlines = index_more deadline_of g.number g rows rows' marks.deadlines marks'.deadlines unused found notes.deadlines is.deadlines;
  cancellation_tokens = index_more cancellation_token_of g.number g rows rows' marks.cancellation_tokens marks'.cancellation_tokens unused found notes.cancellation_tokens is.cancellation_tokens;
}

pub indexed_put : (keys : AskingKeys) (g : LivelinessGet) (rows rows' : List (ℕ × LivelinessGet)) (marks marks' : AskingMarks) → keys ≡ keys_of g → AreIndexed rows marks → is_some (row_at keys.number rows) ≡ false → rows' ≡ placed_row keys.number g rows → Updates keys.number (Some g) rows rows' → Ascend (λ (e : ℕ × LivelinessGet). e.0) rows' → NotesAll keys marks marks' → AreIndexed rows' marks'
indexed_put keys g rows rows' marks marks' same is unused put found up notes = indexed_more g rows rows' marks marks' is
    (subst (λ (k : AskingKeys). is_some (row_at k.number rows) ≡ false) same unused)
    (subst (λ (k : AskingKeys). rows' ≡ placed_row k.number g rows) same put)
    (subst (λ (k : AskingKeys). Updates k.number (Some g) rows rows') same found) up
    (subst (λ (k : AskingKeys). NotesAll k marks marks') same notes)

pub gets_put : (keys : AskingKeys) (g : LivelinessGet) (rows rows' : List (ℕ × LivelinessGet)) (marks : AskingMarks) (gets : List LivelinessGet) → keys ≡ keys_of g → AreIndexed rows marks → rows_of rows ≡ gets → is_asking g.number gets ≡ false → rows' ≡ placed_row keys.number g rows → rows_of rows' ≡ with_liveliness_get g gets
gets_put keys g rows rows' marks gets same is seen unused put =
    ap rows_of (subst (λ (k : AskingKeys). rows' ≡ placed_row k.number g rows) same put)
    ∙ (rows_placed number_of g.number g rows is.numbered
    ∙ (placed_is number_of g (rows_of rows) (rows_ascend number_of rows is.numbered is.ascending) (none_has number_of g.number (rows_of rows) (ap (is_asking g.number) seen ∙ unused))
    ∙ ap (placed_by number_of g) seen))

-- with one get less
pub indexed_take : (n : ℕ) (keys : AskingKeys) (g : LivelinessGet) (rows rows' : List (ℕ × LivelinessGet)) (marks marks' : AskingMarks) → keys ≡ keys_of g → AreIndexed rows marks → row_at n rows ≡ Some g → rows' ≡ without_row n rows → Updates n None rows rows' → Ascend (λ (e : ℕ × LivelinessGet). e.0) rows' → ForgetsAll keys marks marks' → AreIndexed rows' marks'
indexed_take n keys g rows rows' marks marks' same is there left found up forgets =
    let number = number_found number_of n g rows is.numbered there in
    let gone = subst (λ (k : AskingKeys). ForgetsAll k marks marks') same forgets in
    record {
      numbered = subst (AreNumbered number_of) (sym left) (numbered_without number_of n rows is.numbered);
      ascending = up;
      deadlines = index_less deadline_of n g rows rows' marks.deadlines marks'.deadlines there found (subst (λ m. Forgets (deadline_of g) m marks.deadlines marks'.deadlines) number gone.deadlines) is.deadlines;
      cancellation_tokens = index_less cancellation_token_of n g rows rows' marks.cancellation_tokens marks'.cancellation_tokens there found (subst (λ m. Forgets (cancellation_token_of g) m marks.cancellation_tokens marks'.cancellation_tokens) number gone.cancellation_tokens) is.cancellation_tokens;
    }

pub indexed_kept : (n : ℕ) (rows rows' : List (ℕ × LivelinessGet)) (marks : AskingMarks) → AreIndexed rows marks → row_at n rows ≡ None → rows' ≡ without_row n rows → Updates n None rows rows' → Ascend (λ (e : ℕ × LivelinessGet). e.0) rows' → AreIndexed rows' marks
indexed_kept n rows rows' marks is none left found up = record {
  numbered = subst (AreNumbered number_of) (sym left) (numbered_without number_of n rows is.numbered);
  ascending = up;
  deadlines = index_kept deadline_of n rows rows' marks.deadlines none found is.deadlines;
  cancellation_tokens = index_kept cancellation_token_of n rows rows' marks.cancellation_tokens none found is.cancellation_tokens;
}

pub gets_without : (n : ℕ) (rows rows' : List (ℕ × LivelinessGet)) (marks : AskingMarks) (gets : List LivelinessGet) → AreIndexed rows marks → rows_of rows ≡ gets → rows' ≡ without_row n rows → rows_of rows' ≡ without_liveliness_get n gets
gets_without n rows rows' marks gets is seen left = ap rows_of left ∙ (rows_without number_of n rows is.numbered ∙ ap (without_liveliness_get n) seen)

-- a get that is found has the number
pub number_there : (n : ℕ) (g : LivelinessGet) (rows : List (ℕ × LivelinessGet)) (marks : AskingMarks) → AreIndexed rows marks → Some g ≡ row_at n rows → n ≡ g.number
number_there n g rows marks is there = sym (number_found number_of n g rows is.numbered (sym there))

-- and its marks
pub stands_of : (n : ℕ) (g : LivelinessGet) (rows : List (ℕ × LivelinessGet)) (marks : AskingMarks) → AreIndexed rows marks → Some g ≡ row_at n rows → StandsAll (keys_of g) marks
stands_of n g rows marks is there =
    let number : n ≡ g.number = sym (number_found number_of n g rows is.numbered (sym there)) in
    record {
      deadlines = λ k. subst (λ (m : ℕ). is_marked k m marks.deadlines ≡ names k (deadline_of g)) number (is.deadlines k n ∙ ap (row_names deadline_of k) (sym there));
      cancellation_tokens = λ k. subst (λ (m : ℕ). is_marked k m marks.cancellation_tokens ≡ names k (cancellation_token_of g)) number (is.cancellation_tokens k n ∙ ap (row_names cancellation_token_of k) (sym there));
    }

-- with a get in the place of the one of its number
pub indexed_over : (n : ℕ) (g : LivelinessGet) (rows rows' : List (ℕ × LivelinessGet)) (marks marks' : AskingMarks) → AreIndexed rows marks → g.number ≡ n → rows' ≡ with_row n g rows → Updates n (Some g) rows rows' → MovesAll (keys_of g) marks marks' → AreIndexed rows' marks'
indexed_over n g rows rows' marks marks' is number written found moves = record {
  numbered = subst (AreNumbered number_of) (sym written) (numbered_with number_of n g rows is.numbered number);
  ascending = subst (Ascend (λ (e : ℕ × LivelinessGet). e.0)) (sym written) (ascend_with n g rows is.ascending);
  deadlines = index_moved deadline_of n g rows rows' marks.deadlines marks'.deadlines is.deadlines found (subst (λ m. Moves m marks.deadlines marks'.deadlines (deadline_of g)) number moves.deadlines);
  cancellation_tokens = index_moved cancellation_token_of n g rows rows' marks.cancellation_tokens marks'.cancellation_tokens is.cancellation_tokens found (subst (λ m. Moves m marks.cancellation_tokens marks'.cancellation_tokens (cancellation_token_of g)) number moves.cancellation_tokens);
}
  where
    Moves : ℕ → List Mark → List Mark → Option ℕ → Type 0
    Moves m before after key = MovesTo key m before after

pub gets_over : (n : ℕ) (g old : LivelinessGet) (rows rows' : List (ℕ × LivelinessGet)) (marks : AskingMarks) (gets : List LivelinessGet) → AreIndexed rows marks → rows_of rows ≡ gets → Some old ≡ row_at n rows → g.number ≡ n → rows' ≡ with_row n g rows → rows_of rows' ≡ with_liveliness_get g gets
gets_over n g old rows rows' marks gets is seen there number written =
    ap rows_of written
    ∙ (rows_with number_of n g rows is.numbered
    ∙ (written_is number_of g old n (rows_of rows) (rows_ascend number_of rows is.numbered is.ascending) number (there ∙ row_of_number number_of n rows is.numbered)
    ∙ ap (placed_by number_of g) seen))

-- a token is a get's where the get names it
own_names : (cancellation_token : ℕ) (own : Option ℕ) → names cancellation_token own ≡ is_own cancellation_token own
own_names cancellation_token None = refl
own_names cancellation_token (Some own) = refl

-- what is found to end
pub over_get : (now : ℕ) (rows : List (ℕ × LivelinessGet)) (marks : AskingMarks) → AreIndexed rows marks → (r : Option Mark) → MatchOption r ((n : ℕ) → is_marked_up_to now n marks.deadlines ≡ false) (λ m. (m.key ≤ now) × (first_of marks.deadlines ≡ Some m)) → EndsOne number_of (λ g. not (is_over now g)) (option_map (λ (m : Mark). m.number) r) (rows_of rows)
over_get now rows marks is r found = due_ends number_of (λ (g : LivelinessGet). g.deadline) now rows marks.deadlines is.numbered is.ascending is.deadlines r found

pub cancelled_get : (cancellation_token : ℕ) (rows : List (ℕ × LivelinessGet)) (marks : AskingMarks) → AreIndexed rows marks → (r : Option ℕ) → MatchOption r ((n : ℕ) → is_marked cancellation_token n marks.cancellation_tokens ≡ false) (λ n. is_marked cancellation_token n marks.cancellation_tokens ≡ true) → EndsOne number_of (λ g. not (is_own cancellation_token g.cancellation_token)) r (rows_of rows)
cancelled_get cancellation_token rows marks is r found =
    subst (λ (keeps : LivelinessGet → Bool). EndsOne number_of keeps r (rows_of rows)) (λ i g. not (own_names cancellation_token g.cancellation_token i))
    (under_ends number_of cancellation_token_of cancellation_token rows marks.cancellation_tokens is.numbered is.ascending is.cancellation_tokens r found)

-- the numbers of gets
pub numbers_are : (rows : List (ℕ × LivelinessGet)) → AreNumbered number_of rows → numbers_of rows ≡ map number_of (rows_of rows)
numbers_are [] are = refl
numbers_are (e ∷ rows) are = λ i. sym are.0 i ∷ numbers_are rows are.1 i

-- of those whose deadline is reached
pub over_numbers : (now : ℕ) (numbers : List ℕ) (rows : List (ℕ × LivelinessGet)) (marks : AskingMarks) → AreIndexed rows marks → Ascend (λ n. n) numbers → ((n : ℕ) → is_in n numbers ≡ is_marked_up_to now n marks.deadlines) → numbers ≡ over_at now (rows_of rows)
over_numbers now numbers rows marks is rise members =
    due_numbers (λ (g : LivelinessGet). g.deadline) now numbers rows marks.deadlines is.ascending is.deadlines rise members
    ∙ (numbers_are (filter (λ (e : ℕ × LivelinessGet). nat_le e.1.deadline now) rows) (all_filter (λ (e : ℕ × LivelinessGet). e.1.number ≡ e.0) (λ (e : ℕ × LivelinessGet). nat_le e.1.deadline now) rows is.numbered)
    ∙ ap (map number_of) (rows_filtered (λ (g : LivelinessGet). nat_le g.deadline now) rows))

-- and of those that have a token
pub cancelled_numbers : (cancellation_token : ℕ) (rows : List (ℕ × LivelinessGet)) (marks : AskingMarks) → AreIndexed rows marks → Ascend (λ n. n) (under cancellation_token marks.cancellation_tokens) → under cancellation_token marks.cancellation_tokens ≡ numbers_with cancellation_token (rows_of rows)
cancelled_numbers cancellation_token rows marks is rise =
    under_is cancellation_token_of cancellation_token rows marks.cancellation_tokens is.ascending is.cancellation_tokens rise
    ∙ (numbers_are (filter (λ (e : ℕ × LivelinessGet). names cancellation_token e.1.cancellation_token) rows) (all_filter (λ (e : ℕ × LivelinessGet). e.1.number ≡ e.0) (λ (e : ℕ × LivelinessGet). names cancellation_token e.1.cancellation_token) rows is.numbered)
    ∙ (ap (map number_of) (rows_filtered (λ (g : LivelinessGet). names cancellation_token g.cancellation_token) rows)
    ∙ ap (λ (test : LivelinessGet → Bool). map number_of (filter test (rows_of rows))) (λ i g. own_names cancellation_token g.cancellation_token i)))
