-- Entries that are put in and taken out.
use Rattle.std.proofs.Common.{◌≡◌, ◌≢◌, ℕ, zero, suc, ◌+◌, ◌<◌, ◌≤◌, Bool, true, false, List, [], ◌∷◌, ◌++◌, length, get_or, take, drop, string_bytes, Result, Ok, Err, inl, inr, refl, sym, ◌∙◌, ap, subst, arith, append-nil, add-one}
use Rattle.std.specs.Prelude.{not, ◌&&◌, ◌==◌, filter, map, bytes_eq}
use Rattle.std.specs.List.{All, AllByRecursion, AllWithin, HoldsAt, list_any, insert, remove}
use Rattle.std.specs.List.Sorted.{IsSortedBy, IsSearchInRange, IsBinarySearchResult, IsNonDecreasingBy}
use Rattle.std.specs.Ordering.{nat_cmp, is_gt, is_lt, ordering_then, ordering_reverse, ordering_index}
use Rattle.std.specs.declared.cmp.Ordering.{Ordering}
use Rattle.std.specs.declared.cmp.Ordering.TheVariants.{Less, Equal, Greater}
use Rattle.std.specs.Cmp.{IsTotalOrder, nat_cmp_total}
use Rattle.std.specs.Cmp.Lexicographic.{nat_list_cmp_total}
use Rattle.std.proofs.lemmas.Bool.{cases_lt}
use Rattle.std.proofs.lemmas.Bool.Decides.{nat_tests}
use Rattle.std.proofs.lemmas.Cmp.{then_total, on_total, tied_itself}
use Rattle.std.proofs.lemmas.List.Elements.{All-from_recursion, recursion_from_All}
use Rattle.std.proofs.lemmas.List.Sorted.{searchable_from_sorted}
use Rattle.std.proofs.lemmas.List.Splits.{join_with_byte-slice_split}
use Rattle.std.proofs.lemmas.Slice.Eq.{bytes_eq-Decides}
use Rattle.std.specs.List.{join_with_byte}
use Rattle.zs_keys.specs.Text.{chunks}
use Rattle.zs_tree.specs.declared.entry.Entry.{Entry}
use Rattle.zs_tree.specs.Code.{coded, code_of, code_cmp}
use Rattle.zs_tree.specs.Rows.{Row, placed, is_row}
use Rattle.zs_tree.specs.Entries.{row_of, by_number, entry_cmp, IsUpTo, AreInOrder, AreApart, IsPlaceOf}
use Rattle.zs_tree.proofs.Bools.{split, and_first, and_second, both}
use Rattle.zs_tree.proofs.Cut.{are_cut}
use Rattle.zs_tree.proofs.Codes.{decoded}
use Rattle.zs_tree.proofs.Numbers.{IsNew, number_insert, number_remove, filter_all, all_number, all_unnumber, any_number}

-- a code with a number
abbrev pub Place : Type 0
Place = List ℕ × ℕ

abbrev pub place_cmp : Place → Place → Ordering
place_cmp a b = ordering_then (code_cmp a.0 b.0) (nat_cmp a.1 b.1)

pub place_total : IsTotalOrder place_cmp
place_total = then_total (on_total (λ (p : Place). p.0) nat_list_cmp_total) (on_total (λ (p : Place). p.1) nat_cmp_total)

abbrev pub place : Entry → Place
place e = (e.code.items, e.id)

turned : (o p : Ordering) → o ≡ ordering_reverse p → is_gt p ≡ false → is_lt o ≡ false
turned o Less h k = rw h refl
turned o Equal h k = rw h refl
turned o Greater h k = absurd (cc)

up_at : (es : List Entry) → AreInOrder es → (k : ℕ) (d : Entry) → suc k < length es → IsUpTo (get_or es k d) (get_or es (suc k) d)
up_at [] up k d lt = absurd (omega arith)
up_at (e ∷ es) up zero d lt = All-from_recursion (IsUpTo e) es up.0 0 d (omega arith)
up_at (e ∷ es) up (suc k) d lt = up_at es up.1 k d (omega arith)

sorted_order : (es : List Entry) → AreInOrder es → IsSortedBy (λ a b. is_lt (place_cmp (place a) (place b))) es
sorted_order es up k d low lt =
    subst (λ (n : ℕ). is_lt (place_cmp (place (get_or es n d)) (place (get_or es k d))) ≡ false) (sym (add-one k))
    (turned (place_cmp (place (get_or es (suc k) d)) (place (get_or es k d))) (place_cmp (place (get_or es k d)) (place (get_or es (suc k) d)))
    (place_total.antisymm (place (get_or es (suc k) d)) (place (get_or es k d))) (up_at es up k d (omega (arith, lt))))

-- a binary search ends at the code and the number, or at the place for them
pub searched : (code : List ℕ) (id : ℕ) (es : List Entry) → AreInOrder es → (r : Result ℕ ℕ) → IsSearchInRange r (length es)
    → IsBinarySearchResult (entry_cmp code id) es r → IsPlaceOf code id es r
searched code id es up (Ok at) in_range equal = (in_range, equal)
searched code id es up (Err at) in_range parted =
    let (low, high) = parted (searchable_from_sorted place_total place es (code, id) (sorted_order es up)) in (in_range, low, high)

low_upto : (o : Ordering) → o ≡ Less → is_gt o ≡ false
low_upto o h = rw h refl

high_upto : (o p : Ordering) → p ≡ ordering_reverse o → o ≡ Greater → is_gt p ≡ false
high_upto o p h k = rw (h, k) refl

before_new : (new e : Entry) → entry_cmp new.code.items new.id e ≡ Less → IsUpTo e new
before_new new e h = low_upto (entry_cmp new.code.items new.id e) h

behind_new : (new e : Entry) → entry_cmp new.code.items new.id e ≡ Greater → IsUpTo new e
behind_new new e h =
    high_upto (place_cmp (place e) (place new)) (place_cmp (place new) (place e)) (place_total.antisymm (place new) (place e)) h

all_insert : (P : Entry → Type 0) (new : Entry) (es : List Entry) (at : ℕ) → P new → AllByRecursion P es → AllByRecursion P (insert es at new)
all_insert P new es zero h all = (h, all)
all_insert P new [] (suc at) h all = (h, tt)
all_insert P new (e ∷ es) (suc at) h all = (all.0, all_insert P new es at h all.1)

-- an entry at its place keeps the order
pub order_insert : (new : Entry) (es : List Entry) (at : ℕ) → AreInOrder es → at ≤ length es
    → AllWithin (λ e. entry_cmp new.code.items new.id e ≡ Less) es 0 at
    → AllWithin (λ e. entry_cmp new.code.items new.id e ≡ Greater) es at (length es) → AreInOrder (insert es at new)
order_insert new es zero up le low high =
    (recursion_from_All (IsUpTo new) es (λ k d lt. behind_new new (get_or es k d) (high k d (omega arith) lt)), up)
order_insert new [] (suc at) up le low high = absurd (omega arith)
order_insert new (e ∷ es) (suc at) up le low high = (
  all_insert (IsUpTo e) new es at (before_new new e (low 0 e (omega arith) (omega arith))) up.0,
  order_insert new es at up.1 (omega arith) (λ k d a b. low (suc k) d (omega arith) (omega arith)) (λ k d a b. high (suc k) d (omega arith) (omega arith)),
)

-- no entry has the number
abbrev pub HasNot : ℕ → List Entry → Type 0
HasNot id es = AllByRecursion (λ e. e.id ≢ id) es

pub apart_insert : (new : Entry) (es : List Entry) (at : ℕ) → HasNot new.id es → AreApart es → AreApart (insert es at new)
apart_insert new es zero h apart = (h, apart)
apart_insert new [] (suc at) h apart = (tt, tt)
apart_insert new (e ∷ es) (suc at) h apart =
    (all_insert (λ (later : Entry). later.id ≢ e.id) new es at (λ same. h.0 (sym same)) apart.0, apart_insert new es at h.1 apart.1)

all_remove : (P : Entry → Type 0) (es : List Entry) (at : ℕ) → AllByRecursion P es → AllByRecursion P (remove es at)
all_remove P [] zero h = tt
all_remove P [] (suc at) h = tt
all_remove P (e ∷ es) zero h = h.1
all_remove P (e ∷ es) (suc at) h = (h.0, all_remove P es at h.1)

pub order_remove : (es : List Entry) (at : ℕ) → AreInOrder es → AreInOrder (remove es at)
order_remove [] zero up = tt
order_remove [] (suc at) up = tt
order_remove (e ∷ es) zero up = up.1
order_remove (e ∷ es) (suc at) up = (all_remove (IsUpTo e) es at up.0, order_remove es at up.1)

pub apart_remove : (es : List Entry) (at : ℕ) → AreApart es → AreApart (remove es at)
apart_remove [] zero apart = tt
apart_remove [] (suc at) apart = tt
apart_remove (e ∷ es) zero apart = apart.1
apart_remove (e ∷ es) (suc at) apart = (all_remove (λ (later : Entry). later.id ≢ e.id) es at apart.0, apart_remove es at apart.1)

map_insert : (es : List Entry) (at : ℕ) (new : Entry) → at ≤ length es → map row_of (insert es at new) ≡ insert (map row_of es) at (row_of new)
map_insert es zero new le = refl
map_insert [] (suc at) new le = absurd (omega arith)
map_insert (e ∷ es) (suc at) new le = ap (λ (rest : List Row). row_of e ∷ rest) (map_insert es at new (omega arith))

map_remove : (es : List Entry) (at : ℕ) → map row_of (remove es at) ≡ remove (map row_of es) at
map_remove [] zero = refl
map_remove [] (suc at) = refl
map_remove (e ∷ es) zero = refl
map_remove (e ∷ es) (suc at) = ap (λ (rest : List Row). row_of e ∷ rest) (map_remove es at)

map_length : (es : List Entry) → length (map row_of es) ≡ length es
map_length [] = refl
map_length (e ∷ es) = let ih = map_length es in omega (arith, ih)

new_rows : (id : ℕ) (es : List Entry) → AllByRecursion (λ (row : Row). row.id ≢ id) (map row_of es) → HasNot id es
new_rows id [] h = tt
new_rows id (e ∷ es) h = (h.0, new_rows id es h.1)

pub has_not : (id : ℕ) (es : List Entry) → All (λ (row : Row). row.id ≢ id) (by_number (map row_of es)) → HasNot id es
has_not id es h =
    new_rows id es (all_unnumber (λ (row : Row). row.id ≢ id) (map row_of es) (recursion_from_All (λ (row : Row). row.id ≢ id) (by_number (map row_of es)) h))

old_rows : (id : ℕ) (es : List Entry) → HasNot id es → IsNew id (map row_of es)
old_rows id [] h = tt
old_rows id (e ∷ es) h = (h.0, old_rows id es h.1)

-- what contracts see with one more entry
pub seen_insert : (new : Entry) (es : List Entry) (at : ℕ) → HasNot new.id es → at ≤ length es
    → by_number (map row_of (insert es at new)) ≡ placed (row_of new) (by_number (map row_of es))
seen_insert new es at h le =
    ap by_number (map_insert es at new le)
    ∙ number_insert (row_of new) (map row_of es) at (old_rows new.id es h) (let l = map_length es in omega (arith, l, le))

equal_code : (o p : Ordering) → ordering_then o p ≡ Equal → o ≡ Equal
equal_code Less p h = absurd (cc)
equal_code Equal p h = refl
equal_code Greater p h = absurd (cc)

equal_id : (o p : Ordering) → ordering_then o p ≡ Equal → p ≡ Equal
equal_id Less p h = absurd (cc)
equal_id Equal p h = h
equal_id Greater p h = absurd (cc)

same_list : (xs ys : List ℕ) → code_cmp xs ys ≡ Equal → xs ≡ ys
same_list [] [] h = refl
same_list [] (y ∷ ys) h = absurd (cc)
same_list (x ∷ xs) [] h = absurd (cc)
same_list (x ∷ xs) (y ∷ ys) h =
    let o : nat_cmp x y ≡ Equal = equal_code (nat_cmp x y) (code_cmp xs ys) h in
    let first : x ≡ y = grind (arith, nat_tests, o) in
    let rest = same_list xs ys (equal_id (nat_cmp x y) (code_cmp xs ys) h) in
    cc

-- texts with one code are one text
same_text : (s t : List ℕ) → code_of s ≡ code_of t → s ≡ t
same_text s t h =
    let (more, is, none) = decoded (chunks t) (chunks s) [] (are_cut t) (are_cut s) (h ∙ sym (append-nil (code_of t))) in
    go more is none
  where
    go : (more : List (List ℕ)) → chunks s ≡ chunks t ++ more → [] ≡ coded more → s ≡ t
    go [] is none =
        sym (join_with_byte-slice_split 0x2f s) ∙ ap (join_with_byte 0x2f) (is ∙ append-nil (chunks t)) ∙ join_with_byte-slice_split 0x2f t
    go (c ∷ more) is none = absurd (cc)

-- an entry with the code of a text and a number is that of the text and the number
pub found_row : (text : List ℕ) (id : ℕ) (e : Entry) → entry_cmp (code_of text) id e ≡ Equal → is_row id text (row_of e) ≡ true
found_row text id e h =
    let code : e.code.items ≡ code_of text = same_list _ _ (equal_code (code_cmp e.code.items (code_of text)) (nat_cmp e.id id) h) in
    let o : nat_cmp e.id id ≡ Equal = equal_id (code_cmp e.code.items (code_of text)) (nat_cmp e.id id) h in
    let number : (e.id == id) ≡ true = grind (arith, nat_tests, o) in
    let same : string_bytes e.text ≡ text = same_text (string_bytes e.text) text (sym e.coded ∙ code) in
    both (e.id == id) (bytes_eq (string_bytes e.text) text) number ((bytes_eq-Decides (string_bytes e.text) text).1 same)

pub number_of_row : (text : List ℕ) (id : ℕ) (e : Entry) → is_row id text (row_of e) ≡ true → e.id ≡ id
number_of_row text id e h =
    let k = and_first (e.id == id) (bytes_eq (string_bytes e.text) text) h in grind (arith, nat_tests, k)

-- and it has that code and number
row_place : (text : List ℕ) (id : ℕ) (e : Entry) → is_row id text (row_of e) ≡ true → entry_cmp (code_of text) id e ≡ Equal
row_place text id e h =
    let same = (bytes_eq-Decides (string_bytes e.text) text).0 (and_second (e.id == id) (bytes_eq (string_bytes e.text) text) h) in
    let code : e.code.items ≡ code_of text = e.coded ∙ ap code_of same in
    let o : code_cmp e.code.items (code_of text) ≡ Equal = rw code (tied_itself nat_list_cmp_total (code_of text)) in
    let p : nat_cmp e.id id ≡ Equal = rw (number_of_row text id e h) (tied_itself nat_cmp_total id) in
    rw (o, p) refl

pub found_at : (text : List ℕ) (id : ℕ) (es : List Entry) (at : ℕ) (d : Entry) → at < length es → entry_cmp (code_of text) id (get_or es at d) ≡ Equal
    → list_any (is_row id text) (map row_of es) ≡ true
found_at text id [] at d lt h = absurd (omega arith)
found_at text id (e ∷ es) zero d lt h = rw (found_row text id e h) refl
found_at text id (e ∷ es) (suc at) d lt h =
    let ih = found_at text id es at d (omega arith) h in
    split (is_row id text (row_of e)) (λ k. rw k refl) (λ k. rw k ih)

missing_all : (text : List ℕ) (id : ℕ) (es : List Entry) → AllByRecursion (λ e. entry_cmp (code_of text) id e ≢ Equal) es
    → AllByRecursion (λ row. is_row id text row ≡ false) (map row_of es)
missing_all text id [] h = tt
missing_all text id (e ∷ es) h =
    let ih = missing_all text id es h.1 in
    (split (is_row id text (row_of e)) (λ k. absurd (h.0 (row_place text id e k))) (λ k. k), ih)

not_equal_low : (o : Ordering) → o ≡ Less → o ≢ Equal
not_equal_low o h k = cc

not_equal_high : (o : Ordering) → o ≡ Greater → o ≢ Equal
not_equal_high o h k = cc

-- where a text and a number have a place of their own, no row has them
pub none_there : (text : List ℕ) (id : ℕ) (es : List Entry) (at : ℕ) → IsPlaceOf (code_of text) id es (Err at)
    → AllByRecursion (λ row. is_row id text row ≡ false) (map row_of es)
none_there text id es at there =
    missing_all text id es (recursion_from_All (λ e. entry_cmp (code_of text) id e ≢ Equal) es (λ k d lt. elim (cases_lt k at) [
      | inl below ↦ not_equal_low _ (there.1 k d (omega arith) below)
      | inr above ↦ not_equal_high _ (there.2 k d above lt)
    ]))

pub any_none : (p : Row → Bool) (rows : List Row) → AllByRecursion (λ row. p row ≡ false) rows → list_any p rows ≡ false
any_none p [] h = refl
any_none p (row ∷ rows) h = rw (h.0, any_none p rows h.1) refl

keep_none : (p : Row → Bool) (rows : List Row) → AllByRecursion (λ row. p row ≡ false) rows → AllByRecursion (λ row. not (p row) ≡ true) rows
keep_none p [] h = tt
keep_none p (row ∷ rows) h = (rw h.0 refl, keep_none p rows h.1)

pub removes_none : (text : List ℕ) (id : ℕ) (es : List Entry) (at : ℕ) → IsPlaceOf (code_of text) id es (Err at)
    → (list_any (is_row id text) (by_number (map row_of es)) ≡ false)
    × (filter (λ row. not (is_row id text row)) (by_number (map row_of es)) ≡ by_number (map row_of es))
removes_none text id es at there =
    let none = none_there text id es at there in (
      any_number (is_row id text) (map row_of es) ∙ any_none (is_row id text) (map row_of es) none,
      filter_all (λ row. not (is_row id text row)) (by_number (map row_of es))
          (all_number (λ row. not (is_row id text row) ≡ true) (map row_of es) (keep_none (is_row id text) (map row_of es) none)),
    )

-- the entries beside the one that is taken out have other numbers
pub others : (es : List Entry) (at : ℕ) (d : Entry) → AreApart es → at < length es → HasNot (get_or es at d).id (remove es at)
others [] at d apart lt = absurd (omega arith)
others (e ∷ es) zero d apart lt = apart.0
others (e ∷ es) (suc at) d apart lt =
    let later : (get_or es at d).id ≢ e.id = All-from_recursion (λ (later : Entry). later.id ≢ e.id) es apart.0 at d (omega arith) in
    (λ same. later (sym same), others es at d apart.1 (omega arith))

pub keep_others : (text : List ℕ) (id : ℕ) (es : List Entry) → HasNot id es → AllByRecursion (λ row. not (is_row id text row) ≡ true) (map row_of es)
keep_others text id [] h = tt
keep_others text id (e ∷ es) h =
    let ih = keep_others text id es h.1 in
    (split (is_row id text (row_of e)) (λ k. absurd (h.0 (number_of_row text id e k))) (λ k. rw k refl), ih)

row_at : (es : List Entry) (at : ℕ) (d : Entry) → get_or (map row_of es) at (row_of d) ≡ row_of (get_or es at d)
row_at [] zero d = refl
row_at [] (suc at) d = refl
row_at (e ∷ es) zero d = refl
row_at (e ∷ es) (suc at) d = row_at es at d

-- what contracts see without the entry that was found
pub seen_remove : (text : List ℕ) (id : ℕ) (es : List Entry) (at : ℕ) (d : Entry) → AreApart es → at < length es
    → entry_cmp (code_of text) id (get_or es at d) ≡ Equal
    → by_number (map row_of (remove es at)) ≡ filter (λ row. not (is_row id text row)) (by_number (map row_of es))
seen_remove text id es at d apart lt h =
    let row = found_row text id (get_or es at d) h in
    let number = number_of_row text id (get_or es at d) row in
    let out : not (is_row id text (get_or (map row_of es) at (row_of d))) ≡ false = rw (row_at es at d, row) refl in
    let rest : AllByRecursion (λ row. not (is_row id text row) ≡ true) (remove (map row_of es) at) =
    rw (← map_remove es at) (keep_others text id (remove es at) (subst (λ n. HasNot n (remove es at)) number (others es at d apart lt))) in
    ap by_number (map_remove es at)
    ∙ sym (number_remove (λ row. not (is_row id text row)) (map row_of es) at (row_of d) (let l = map_length es in omega (arith, l, lt)) out rest)

-- no entry has the code and the number
abbrev pub NoneAt : List ℕ → ℕ → List Entry → Type 0
NoneAt code id es = AllByRecursion (λ e. entry_cmp code id e ≢ Equal) es

-- where none has the number, none has it with a code
pub none_at : (code : List ℕ) (id : ℕ) (es : List Entry) → HasNot id es → NoneAt code id es
none_at code id [] none = tt
none_at code id (e ∷ es) none = (
  (λ h. none.0 (let o : nat_cmp e.id id ≡ Equal = equal_id (code_cmp e.code.items code) (nat_cmp e.id id) h in grind (arith, nat_tests, o))),
  none_at code id es none.1,
)

-- the entry of a text and a number goes to their place
pub placed_in_order : (new : Entry) (text : List ℕ) (id : ℕ) (es : List Entry) (at : ℕ) → row_of new ≡ record { id = id; text = text }
    → AreInOrder es → IsPlaceOf (code_of text) id es (Err at) → AreInOrder (insert es at new)
placed_in_order new text id es at is up there =
    let number : id ≡ new.id = sym (ap (λ (row : Row). row.id) is) in
    let code : code_of text ≡ new.code.items = sym (new.coded ∙ ap (λ (row : Row). code_of row.text) is) in
    let there' : IsPlaceOf new.code.items id es (Err at) = subst (λ (c : List ℕ). IsPlaceOf c id es (Err at)) code there in
    let there'' : IsPlaceOf new.code.items new.id es (Err at) = subst (λ (n : ℕ). IsPlaceOf new.code.items n es (Err at)) number there' in
    order_insert new es at up there''.0 there''.1 there''.2

pub placed_apart : (new : Entry) (text : List ℕ) (id : ℕ) (es : List Entry) (at : ℕ) → row_of new ≡ record { id = id; text = text }
    → HasNot id es → AreApart es → AreApart (insert es at new)
placed_apart new text id es at is none apart =
    let number : id ≡ new.id = sym (ap (λ (row : Row). row.id) is) in
    apart_insert new es at (subst (λ (n : ℕ). HasNot n es) number none) apart

pub placed_seen : (new : Entry) (text : List ℕ) (id : ℕ) (es : List Entry) (at : ℕ) → row_of new ≡ record { id = id; text = text }
    → HasNot id es → at ≤ length es → by_number (map row_of (insert es at new)) ≡ placed (record { id = id; text = text }) (by_number (map row_of es))
placed_seen new text id es at is none le =
    let number : id ≡ new.id = sym (ap (λ (row : Row). row.id) is) in
    seen_insert new es at (subst (λ (n : ℕ). HasNot n es) number none) le ∙ ap (λ (row : Row). placed row (by_number (map row_of es))) is
