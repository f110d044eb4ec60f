-- Which entries hit.
use Rattle.std.proofs.Common.{◌≡◌, ℕ, zero, suc, ◌<◌, ◌≤◌, Bool, true, false, List, [], ◌∷◌, ◌++◌, length, string_bytes, refl, sym, ◌∙◌, ap, subst, arith, append-nil, length-append}
use Rattle.std.specs.Prelude.{filter, ◌+◌, if◌then◌else◌}
use Rattle.std.specs.List.{AllByRecursion}
use Rattle.std.specs.Ordering.{nat_cmp, is_gt, ordering_then}
use Rattle.std.specs.declared.cmp.Ordering.TheVariants.{Less, Equal, Greater}
use Rattle.std.specs.Cmp.Lexicographic.{nat_list_cmp_total}
use Rattle.std.proofs.lemmas.Cmp.{tied_itself}
use Rattle.std.proofs.lemmas.Bool.Decides.{nat_tests}
use Rattle.zs_keys.specs.Text.{chunks}
use Rattle.zs_tree.specs.declared.entry.Entry.{Entry}
use Rattle.zs_tree.specs.declared.runs.Bound.{Bound}
use Rattle.zs_tree.specs.declared.runs.Bound.TheVariants.{Open, Below, Closed}
use Rattle.zs_tree.specs.Code.{coded, code_cmp}
use Rattle.zs_tree.specs.Entries.{IsUpTo, AreInOrder, AllAscend, IsNextRun, entry_cmp, hits}
use Rattle.zs_tree.specs.Runs.{within, lies, BeginsWithin, is_nil}
use Rattle.zs_tree.specs.Walk.{AreCut, AreMissed, chunks_meet}
use Rattle.zs_tree.proofs.Bools.{split}
use Rattle.zs_tree.proofs.Cut.{are_cut}
use Rattle.zs_tree.proofs.Codes.{UpTo, decoded}
use Rattle.zs_tree.proofs.Missed.{lies-path, lies-parts}
use Rattle.zs_tree.proofs.RunLemmas.{code_upto, upto_itself}

all_left : (P : Entry → Type 0) (xs ys : List Entry) → AllByRecursion P (xs ++ ys) → AllByRecursion P xs
all_left P [] ys h = tt
all_left P (x ∷ xs) ys h = (h.0, all_left P xs ys h.1)

order_left : (xs ys : List Entry) → AreInOrder (xs ++ ys) → AreInOrder xs
order_left [] ys h = tt
order_left (x ∷ xs) ys h = (all_left (IsUpTo x) xs ys h.0, order_left xs ys h.1)

pub order_right : (xs ys : List Entry) → AreInOrder (xs ++ ys) → AreInOrder ys
order_right [] ys h = h
order_right (x ∷ xs) ys h = order_right xs ys h.1

filter_parts : (p : Entry → Bool) (xs ys : List Entry) → filter p (xs ++ ys) ≡ filter p xs ++ filter p ys
filter_parts p [] ys = refl
filter_parts p (x ∷ xs) ys =
    let ih = filter_parts p xs ys in
    split (p x) (λ h. rw h (ap (λ (rest : List Entry). x ∷ rest) ih)) (λ h. rw h ih)

filter_no : (p : Entry → Bool) (xs : List Entry) → AllByRecursion (λ e. p e ≡ false) xs → filter p xs ≡ []
filter_no p [] h = refl
filter_no p (x ∷ xs) h = rw h.0 (filter_no p xs h.1)

filter_yes : (p : Entry → Bool) (xs : List Entry) → AllByRecursion (λ e. p e ≡ true) xs → filter p xs ≡ xs
filter_yes p [] h = refl
filter_yes p (x ∷ xs) h = rw h.0 (ap (λ (rest : List Entry). x ∷ rest) (filter_yes p xs h.1))

-- the codes from the first entry on
all_from : (first : Entry) (es : List Entry) → AllByRecursion (IsUpTo first) es → AllByRecursion (λ e. UpTo first.code.items e.code.items) es
all_from first [] h = tt
all_from first (e ∷ es) h = (code_upto first e h.0, all_from first es h.1)

-- an entry that is missed
missed_one : (text : List ℕ) (first e : Entry) (path : List ℕ) (bound : Bound) → AreMissed (chunks text) first.code.items path bound
    → UpTo first.code.items e.code.items → lies path bound e.code.items ≡ true → hits text e ≡ false
missed_one text first e path bound missed up there =
    let cs = chunks (string_bytes e.text) in
    missed.none cs (are_cut (string_bytes e.text)) (rw e.coded at up) (rw e.coded at there)

missed_all : (text : List ℕ) (first : Entry) (path : List ℕ) (bound : Bound) → AreMissed (chunks text) first.code.items path bound
    → (run : List Entry) → AllByRecursion (λ e. UpTo first.code.items e.code.items) run → AllByRecursion (λ e. lies path bound e.code.items ≡ true) run
    → AllByRecursion (λ e. hits text e ≡ false) run
missed_all text first path bound missed [] up there = tt
missed_all text first path bound missed (e ∷ run) up there =
    (missed_one text first e path bound missed up.0 there.0, missed_all text first path bound missed run up.1 there.1)

-- an entry with the code of one that hits
met_one : (text : List ℕ) (first e : Entry) → hits text first ≡ true → e.code.items ≡ first.code.items → hits text e ≡ true
met_one text first e hit same =
    let these = chunks (string_bytes first.text) in
    let cs = chunks (string_bytes e.text) in
    let codes : coded cs ≡ coded these ++ [] = sym e.coded ∙ same ∙ first.coded ∙ sym (append-nil (coded these)) in
    let (more, is, none) = decoded these cs [] (are_cut (string_bytes first.text)) (are_cut (string_bytes e.text)) codes in
    go more is none
  where
    go : (more : List (List ℕ)) → chunks (string_bytes e.text) ≡ chunks (string_bytes first.text) ++ more → [] ≡ coded more → hits text e ≡ true
    go [] is none = ap (chunks_meet (chunks text)) (is ∙ append-nil (chunks (string_bytes first.text))) ∙ hit
    go (c ∷ more) is none = absurd (cc)

closed_same : (code other : List ℕ) → lies code Closed other ≡ true → other ≡ code
closed_same code other h =
    let (rest, is, inside) = lies-parts code other Closed h in go rest is inside
  where
    go : (rest : List ℕ) → other ≡ code ++ rest → is_nil rest ≡ true → other ≡ code
    go [] is inside = is ∙ append-nil code
    go (x ∷ rest) is inside = absurd (cc)

met_all : (text : List ℕ) (first : Entry) → hits text first ≡ true → (run : List Entry)
    → AllByRecursion (λ e. lies first.code.items Closed e.code.items ≡ true) run → AllByRecursion (λ e. hits text e ≡ true) run
met_all text first hit [] there = tt
met_all text first hit (e ∷ run) there =
    (met_one text first e hit (closed_same first.code.items e.code.items there.0), met_all text first hit run there.1)

same_ascend : (e f : Entry) → e.code.items ≡ f.code.items → IsUpTo e f → e.id ≤ f.id
same_ascend e f same up =
    let tied : code_cmp e.code.items f.code.items ≡ Equal = rw same (tied_itself nat_list_cmp_total f.code.items) in
    let by_id : is_gt (nat_cmp e.id f.id) ≡ false = rw tied at up in
    grind (arith, nat_tests, by_id)

-- entries with one code are in the order of their numbers
all_ascend : (code : List ℕ) (run : List Entry) → AllByRecursion (λ e. lies code Closed e.code.items ≡ true) run → AreInOrder run → AllAscend run
all_ascend code [] there up = tt
all_ascend code (e ∷ run) there up =
    (later e (closed_same code e.code.items there.0) run there.1 up.0, all_ascend code run there.1 up.1)
  where
    later : (e : Entry) → e.code.items ≡ code → (run : List Entry) → AllByRecursion (λ f. lies code Closed f.code.items ≡ true) run
        → AllByRecursion (IsUpTo e) run → AllByRecursion (λ f. e.id ≤ f.id) run
    later e is [] there up = tt
    later e is (f ∷ run) there up =
        (same_ascend e f (is ∙ sym (closed_same code f.code.items there.0)) up.0, later e is run there.1 up.1)

-- a run that lies where nothing hits is left out
pub left_out : (text : List ℕ) (first : Entry) (es run behind : List Entry) (path : List ℕ) (bound : Bound)
    → AreInOrder (first ∷ es) → first ∷ es ≡ run ++ behind → AreMissed (chunks text) first.code.items path bound
    → AllByRecursion (λ e. lies path bound e.code.items ≡ true) run → filter (hits text) (first ∷ es) ≡ filter (hits text) behind
left_out text first es run behind path bound up is missed there =
    let from : AllByRecursion (λ e. UpTo first.code.items e.code.items) (first ∷ es) = (upto_itself first.code.items, all_from first es up.0) in
    let from' : AllByRecursion (λ e. UpTo first.code.items e.code.items) run =
    all_left (λ (e : Entry). UpTo first.code.items e.code.items) run behind (subst (AllByRecursion (λ (e : Entry). UpTo first.code.items e.code.items)) is from) in
    ap (filter (hits text)) is ∙ filter_parts (hits text) run behind
    ∙ rw (filter_no (hits text) run (missed_all text first path bound missed run from' there)) refl

-- a run of equal keys that hit is the next one
pub next_found : (text : List ℕ) (first : Entry) (es run behind : List Entry) → AreInOrder (first ∷ es) → first ∷ es ≡ run ++ behind
    → hits text first ≡ true → AllByRecursion (λ e. lies first.code.items Closed e.code.items ≡ true) run → 0 < length run
    → IsNextRun text (first ∷ es) run behind
next_found text first es run behind up is hit there some = record {
  found = ap (filter (hits text)) is ∙ filter_parts (hits text) run behind
      ∙ rw (filter_yes (hits text) run (met_all text first hit run there)) refl;
  ascending = all_ascend first.code.items run there (order_left run behind (subst AreInOrder is up));
  order = order_right run behind (subst AreInOrder is up);
  fewer = let all : length (first ∷ es) ≡ length run + length behind = ap length is ∙ length-append run behind in omega arith;
}

-- a key begins a run of its own
pub begins_closed : (first : Entry) → lies first.code.items Closed first.code.items ≡ true
begins_closed first =
    let h = lies-path first.code.items [] Closed refl in rw (append-nil first.code.items) at h

-- what is left of some entries, where none before it hits
pub record Gathered (text : List ℕ) (all rest : List Entry) : Type 0 where
  pub same : filter (hits text) all ≡ filter (hits text) rest
  pub order : AreInOrder rest
  pub fewer : length rest ≤ length all

-- the next run of what is left is the next one of all
pub gathered_run : (text : List ℕ) (all rest : List Entry) (first : Entry) (es run behind : List Entry) (path : List ℕ) → Gathered text all rest
    → rest ≡ first ∷ es → path ≡ first.code.items → rest ≡ run ++ behind → hits text first ≡ true
    → AllByRecursion (λ e. lies path Closed e.code.items ≡ true) run → 0 < length run → IsNextRun text all run behind
gathered_run text all rest first es run behind path g rest_is path_is is hit there some =
    let g' : Gathered text all (first ∷ es) = rw rest_is at g in
    let r = next_found text first es run behind g'.order (sym rest_is ∙ is) hit (rw path_is at there) some in
    record {
      found = g'.same ∙ r.found;
      ascending = r.ascending;
      order = r.order;
      fewer = omega (arith, g'.fewer, r.fewer);
    }

-- what is left behind a run where nothing hits
pub gathered_on : (text : List ℕ) (all rest : List Entry) (first : Entry) (es run behind : List Entry) (path : List ℕ) (bound : Bound)
    → Gathered text all rest → rest ≡ first ∷ es → rest ≡ run ++ behind → AreMissed (chunks text) first.code.items path bound
    → AllByRecursion (λ e. lies path bound e.code.items ≡ true) run → Gathered text all behind
gathered_on text all rest first es run behind path bound g rest_is is missed there =
    let g' : Gathered text all (first ∷ es) = rw rest_is at g in
    let is' : first ∷ es ≡ run ++ behind = sym rest_is ∙ is in
    record {
      same = g'.same ∙ left_out text first es run behind path bound g'.order is' missed there;
      order = order_right run behind (subst AreInOrder is' g'.order);
      fewer = let parts : length (first ∷ es) ≡ length run + length behind = ap length is' ∙ length-append run behind in omega (arith, g'.fewer);
    }
