-- What is seen of entries of which one gives way to another with its number.
use Rattle.std.proofs.Common.{◌≡◌, ◌≢◌, ℕ, zero, suc, ◌<◌, ◌≤◌, Bool, true, false, List, [], ◌∷◌, length, get_or, Result, Ok, Err, OnOk, OnErr, refl, sym, ap, subst, ◌∙◌, arith, true≢false}
use Rattle.std.specs.Prelude.{not, ◌&&◌, ◌==◌, filter, map, bytes_eq, string_bytes}
use Rattle.std.specs.List.{AllByRecursion, list_any, insert, remove}
use Rattle.std.specs.declared.cmp.Ordering.TheVariants.{Equal}
use Rattle.std.proofs.lemmas.Slice.Eq.{bytes_eq-Decides}
use Rattle.zs_tree.specs.declared.entry.Entry.{Entry}
use Rattle.zs_tree.specs.Blocks.{IsPutIn, IsTakenOut}
use Rattle.zs_tree.specs.Code.{code_of}
use Rattle.zs_tree.specs.Entries.{AreInOrder, AreApart, entry_cmp, row_of, by_number}
use Rattle.zs_tree.specs.Rows.{Row, placed, is_row}
use Rattle.zs_tree.proofs.Bools.{split, and_first, and_second}
use Rattle.zs_tree.proofs.EditLemmas.{HasNot, NoneAt, order_insert, order_remove, apart_remove, found_row, number_of_row, others, keep_others, any_none, none_there, seen_remove, placed_apart, placed_seen}
use Rattle.zs_tree.proofs.Numbers.{any_number}

-- one put in, and then another one taken out: the same as the other way round
record Exchanged (new : Entry) (es : List Entry) (at out : ℕ) : Type 0 where
  gone : ℕ
  place : ℕ
  there : gone < length es
  same : (d : Entry) → get_or (insert es at new) out d ≡ get_or es gone d
  le : place ≤ length (remove es gone)
  is : remove (insert es at new) out ≡ insert (remove es gone) place new

exchange : (new : Entry) (es : List Entry) (at out : ℕ) → at ≤ length es → out < length (insert es at new) → out ≢ at → Exchanged new es at out
exchange new es zero zero le lt apart = absurd (apart refl)
exchange new es zero (suc out) le lt apart = record { gone = out; place = 0; there = omega (arith, lt); same = λ d. refl; le = omega arith; is = refl }
exchange new [] (suc at) out le lt apart = absurd (omega (arith, le))
exchange new (e ∷ es) (suc at) zero le lt apart = record { gone = 0; place = at; there = omega arith; same = λ d. refl; le = omega (arith, le); is = refl }
exchange new (e ∷ es) (suc at) (suc out) le lt apart =
    let more = exchange new es at out (omega (arith, le)) (omega (arith, lt)) (λ same. apart (ap suc same)) in
    record { gone = suc more.gone; place = suc more.place; there = omega (arith, more.there); same = more.same; le = omega (arith, more.le); is = ap (λ (rest : List Entry). e ∷ rest) more.is }

inserted : (new : Entry) (es : List Entry) (at : ℕ) (d : Entry) → at ≤ length es → get_or (insert es at new) at d ≡ new
inserted new es zero d le = refl
inserted new [] (suc at) d le = absurd (omega (arith, le))
inserted new (e ∷ es) (suc at) d le = inserted new es at d (omega (arith, le))

text_of_row : (text : List ℕ) (id : ℕ) (e : Entry) → is_row id text (row_of e) ≡ true → string_bytes e.text ≡ text
text_of_row text id e h = (bytes_eq-Decides (string_bytes e.text) text).0 (and_second (e.id == id) (bytes_eq (string_bytes e.text) text) h)

-- the row of a number has one text
not_both : (old new : List ℕ) (id : ℕ) (e : Entry) → old ≢ new → is_row id old (row_of e) ≡ true → is_row id new (row_of e) ≡ false
not_both old new id e apart is = split (is_row id new (row_of e)) (λ k. absurd (apart (sym (text_of_row old id e is) ∙ text_of_row new id e k))) (λ k. k)

none_any : (text : List ℕ) (id : ℕ) (es : List Entry) → HasNot id es → list_any (is_row id text) (map row_of es) ≡ false
none_any text id [] none = refl
none_any text id (e ∷ es) none = split (is_row id text (row_of e)) (λ k. absurd (none.0 (number_of_row text id e k))) (λ k. rw k (none_any text id es none.1))

with_number : (n id : ℕ) (es : List Entry) → n ≡ id → HasNot n es → HasNot id es
with_number n id es is none = subst (λ (m : ℕ). HasNot m es) is none

none_new : (old new : List ℕ) (id : ℕ) (es : List Entry) → AreApart es → old ≢ new → list_any (is_row id old) (map row_of es) ≡ true → AllByRecursion (λ e. is_row id new (row_of e) ≡ false) es
none_new old new id [] apart differ there = tt
none_new old new id (e ∷ es) apart differ there =
    split (is_row id old (row_of e))
    (λ k. (not_both old new id e differ k, rest es (with_number e.id id es (number_of_row old id e k) apart.0)))
    (λ k.
    let later : list_any (is_row id old) (map row_of es) ≡ true = rw k at there in (
      split (is_row id new (row_of e))
          (λ m. absurd (true≢false (sym later ∙ none_any old id es (with_number e.id id es (number_of_row new id e m) apart.0))))
          (λ m. m),
      none_new old new id es apart.1 differ later,
    ))
  where
    rest : (more : List Entry) → HasNot id more → AllByRecursion (λ e. is_row id new (row_of e) ≡ false) more
    rest [] none = tt
    rest (f ∷ more) none = (split (is_row id new (row_of f)) (λ k. absurd (none.0 (number_of_row new id f k))) (λ k. k), rest more none.1)

free_of : (text : List ℕ) (id : ℕ) (es : List Entry) → AllByRecursion (λ e. is_row id text (row_of e) ≡ false) es → NoneAt (code_of text) id es
free_of text id [] none = tt
free_of text id (e ∷ es) none = ((λ h. true≢false (sym (found_row text id e h) ∙ none.0)), free_of text id es none.1)

-- the place of the new key is free
pub replace_free : (entry : Entry) (old new : List ℕ) (id : ℕ) (es : List Entry) → row_of entry ≡ record { id = id; text = new } → AreApart es → old ≢ new → list_any (is_row id old) (by_number (map row_of es)) ≡ true → NoneAt entry.code.items entry.id es
replace_free entry old new id es is apart differ there =
    let free = free_of new id es (none_new old new id es apart differ (sym (any_number (is_row id old) (map row_of es)) ∙ there)) in
    let number : id ≡ entry.id = sym (ap (λ (row : Row). row.id) is) in
    let code : code_of new ≡ entry.code.items = sym (entry.coded ∙ ap (λ (row : Row). code_of row.text) is) in
    subst (λ (c : List ℕ). NoneAt c entry.id es) code (subst (λ (n : ℕ). NoneAt (code_of new) n es) number free)

less : (P : Row → Type 0) (new : Entry) (es : List Entry) (at : ℕ) → AllByRecursion P (map row_of (insert es at new)) → AllByRecursion P (map row_of es)
less P new es zero h = h.1
less P new [] (suc at) h = tt
less P new (e ∷ es) (suc at) h = (h.0, less P new es at h.1)

-- what stands once the old one is out
pub record IsReplaced (old_text new_text : List ℕ) (id : ℕ) (old new : List Entry) : Type 0 where
  pub apart : AreApart new
  pub seen : by_number (map row_of new) ≡ placed (record { id = id; text = new_text }) (filter (λ row. not (is_row id old_text row)) (by_number (map row_of old)))

pub replaced : (entry : Entry) (old new : List ℕ) (id : ℕ) (es more less_one : List Entry) (there : Bool) → row_of entry ≡ record { id = id; text = new } → AreApart es → old ≢ new → list_any (is_row id old) (by_number (map row_of es)) ≡ true
    → IsPutIn entry es more → IsTakenOut (code_of old) id more less_one there → IsReplaced old new id es less_one
replaced entry old new id es more less_one false is apart differ there put out =
    let none = none_there old id more out.0 out.1 in
    let none_es : AllByRecursion (λ (row : Row). is_row id old row ≡ false) (map row_of es) = less (λ (row : Row). is_row id old row ≡ false) entry es put.at (subst (λ (xs : List Entry). AllByRecursion (λ (row : Row). is_row id old row ≡ false) (map row_of xs)) put.is none) in
    absurd (true≢false (sym there ∙ (any_number (is_row id old) (map row_of es) ∙ any_none (is_row id old) (map row_of es) none_es)))
replaced entry old new id es more less_one true is apart differ there put out =
    let there_in : out.0 < length (insert es put.at entry) = subst (λ (xs : List Entry). out.0 < length xs) put.is out.1.0 in
    let equal : entry_cmp (code_of old) id (get_or (insert es put.at entry) out.0 entry) ≡ Equal = subst (λ (xs : List Entry). entry_cmp (code_of old) id (get_or xs out.0 entry) ≡ Equal) put.is (out.1.1 entry) in
    let not_new : out.0 ≢ put.at = λ same. its_own (subst (λ (n : ℕ). entry_cmp (code_of old) id (get_or (insert es put.at entry) n entry) ≡ Equal) same equal) in
    let e = exchange entry es put.at out.0 put.place.0 there_in not_new in
    let found : entry_cmp (code_of old) id (get_or es e.gone entry) ≡ Equal = subst (λ (f : Entry). entry_cmp (code_of old) id f ≡ Equal) (e.same entry) equal in
    let number : (get_or es e.gone entry).id ≡ id = number_of_row old id (get_or es e.gone entry) (found_row old id (get_or es e.gone entry) found) in
    let none : HasNot id (remove es e.gone) = with_number (get_or es e.gone entry).id id (remove es e.gone) number (others es e.gone entry apart e.there) in
    let last : less_one ≡ insert (remove es e.gone) e.place entry = out.2 ∙ (ap (λ (xs : List Entry). remove xs out.0) put.is ∙ e.is) in
    record {
      apart = subst AreApart (sym last) (placed_apart entry new id (remove es e.gone) e.place is none (apart_remove es e.gone apart));
      seen =
          ap (λ (xs : List Entry). by_number (map row_of xs)) last
          ∙ (placed_seen entry new id (remove es e.gone) e.place is none e.le
          ∙ ap (placed (record { id = id; text = new })) (seen_remove old id es e.gone entry apart e.there found));
    }
  where
    its_own : entry_cmp (code_of old) id (get_or (insert es put.at entry) put.at entry) ≡ Equal → ⊥
    its_own h =
        let own : entry_cmp (code_of old) id entry ≡ Equal = subst (λ (f : Entry). entry_cmp (code_of old) id f ≡ Equal) (inserted entry es put.at entry put.place.0) h in
        differ (sym (text_of_row old id entry (found_row old id entry own)) ∙ ap (λ (row : Row). row.text) is)
