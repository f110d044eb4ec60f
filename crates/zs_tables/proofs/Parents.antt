-- Listeners found by their publishers and queriers.
use Rattle.std.proofs.Common.{◌≡◌, ◌≢◌, ℕ, ◌<◌, ◌≤◌, Bool, true, false, List, [], ◌∷◌, ◌++◌, length, Option, Some, None, refl, sym, ap, subst, ◌∙◌, arith}
use Rattle.std.specs.Prelude.{◌==◌, ◌&&◌, ◌||◌, not, map, filter, All, MatchOption, if◌then◌else◌}
use Rattle.std.specs.List.{AllByRecursion, find, list_any}
use Rattle.std.proofs.lemmas.Bool.Decides.{nat_tests}
use Rattle.std.proofs.lemmas.List.Elements.{recursion_from_All, All-from_recursion}
use Rattle.zs_rows.specs.Index.{is_marked, under, names, Notes, Forgets}
use Rattle.zs_rows.specs.Numbers.{is_in}
use Rattle.zs_rows.specs.Rows.{first_of, is_behind}
use Rattle.zs_rows.specs.declared.mark.Mark.{Mark}
use Rattle.zs_rows.proofs.Listing.{same_numbers}
use Rattle.zs_rows.proofs.Marking.{in_under}
use Rattle.zs_tables.specs.declared.recount.Recount.{Recount}
use Rattle.zs_subscriptions.specs.Ascending.{Ascend}
use Rattle.zs_subscriptions.specs.Recipients.{first_behind}
use Rattle.zs_tables.specs.Matching.{Listener, set_if, with_count}
use Rattle.zs_tables.specs.Listeners.{is_of, AreIndexed}
use Rattle.zs_subscriptions.proofs.Ascending.{all_weaker, all_both, ascend_map, ascend_filter}
use Rattle.zs_subscriptions.proofs.ByKey.{by_test}
use Rattle.zs_tables.proofs.Recounting.{found_each}
use Rattle.zs_subscriptions.proofs.Searching.{find_none, filter_none}

abbrev id_of : Listener → ℕ
id_of l = l.row.id

-- no listener, no mark
pub indexed_none : AreIndexed [] []
indexed_none parent id = refl

-- a number above all is not found
above_none : (id : ℕ) (ls : List Listener) → All (λ (l : Listener). l.row.id < id) ls → find (λ (l : Listener). l.row.id == id) ls ≡ None
above_none id ls above = find_none id_of id ls (all_weaker (λ (l : Listener). l.row.id < id) (λ (l : Listener). l.row.id ≢ id) (λ l lt same. omega (arith, lt, same)) ls (recursion_from_All (λ (l : Listener). l.row.id < id) ls above))

found_push : (new : Listener) (id : ℕ) (ls : List Listener) → AllByRecursion (λ (l : Listener). l.row.id < new.row.id) ls
    → find (λ (l : Listener). l.row.id == id) (ls ++ new ∷ []) ≡ (if new.row.id == id then Some new else find (λ (l : Listener). l.row.id == id) ls)
found_push new id [] above = refl
found_push new id (l ∷ ls) above =
    let ih = found_push new id ls above.1 in
    by_test (l.row.id == id)
    (λ k. let apart : (new.row.id == id) ≡ false = grind (arith, nat_tests, k, above.0) in rw (k, apart) refl)
    (λ k. rw k ih)

-- the index with one more listener
pub indexed_more : (new : Listener) (ls ls' : List Listener) (marks marks' : List Mark) → AreIndexed ls marks → All (λ (l : Listener). l.row.id < new.row.id) ls → ls' ≡ ls ++ new ∷ []
    → Notes (Some new.row.parent) new.row.id marks marks' → AreIndexed ls' marks'
indexed_more new ls ls' marks marks' is above more notes parent id =
    notes parent id ∙ (ap (λ (b : Bool). ((new.row.parent == parent) && (id == new.row.id)) || b) (is parent id)
    ∙ (go (new.row.id == id) refl ∙ sym (ap (λ (all : List Listener). is_of parent (find (λ (l : Listener). l.row.id == id) all)) more ∙ ap (is_of parent) (found_push new id ls (recursion_from_All (λ (l : Listener). l.row.id < new.row.id) ls above)))))
  where
    none : id ≡ new.row.id → find (λ (l : Listener). l.row.id == id) ls ≡ None
    none same = ap (λ (n : ℕ). find (λ (l : Listener). l.row.id == n) ls) same ∙ above_none new.row.id ls above

    both : (a : Bool) → ((a && true) || false) ≡ a
    both true = refl
    both false = refl

    neither : (a b : Bool) → ((a && false) || b) ≡ b
    neither true b = refl
    neither false b = refl

    go : (b : Bool) → (new.row.id == id) ≡ b
        → (((new.row.parent == parent) && (id == new.row.id)) || is_of parent (find (λ (l : Listener). l.row.id == id) ls)) ≡ is_of parent (if new.row.id == id then Some new else find (λ (l : Listener). l.row.id == id) ls)
    go true k =
        let same : id ≡ new.row.id = grind (arith, nat_tests, k) in
        let turned : (id == new.row.id) ≡ true = grind (arith, nat_tests, k) in
        rw (k, turned, none same) (both (new.row.parent == parent))
    go false k =
        let turned : (id == new.row.id) ≡ false = grind (arith, nat_tests, k) in
        rw (k, turned) (neither (new.row.parent == parent) (is_of parent (find (λ (l : Listener). l.row.id == id) ls)))

-- a mark that is taken back leaves the index as it was
pub indexed_back : (parent : ℕ) (id : ℕ) (ls : List Listener) (marks more less : List Mark) → AreIndexed ls marks → All (λ (l : Listener). l.row.id < id) ls
    → Notes (Some parent) id marks more → Forgets (Some parent) id more less → AreIndexed ls less
indexed_back parent id ls marks more less is above notes forgets key n =
    forgets key n ∙ (ap (λ (b : Bool). not ((parent == key) && (n == id)) && b) (notes key n ∙ ap (λ (b : Bool). ((parent == key) && (n == id)) || b) (is key n))
    ∙ go (n == id) refl)
  where
    none : n ≡ id → find (λ (l : Listener). l.row.id == n) ls ≡ None
    none same = ap (λ (m : ℕ). find (λ (l : Listener). l.row.id == m) ls) same ∙ above_none id ls above

    gone : (a : Bool) → (not (a && true) && ((a && true) || false)) ≡ false
    gone true = refl
    gone false = refl

    stays : (a b : Bool) → (not (a && false) && ((a && false) || b)) ≡ b
    stays true b = refl
    stays false b = refl

    go : (b : Bool) → (n == id) ≡ b → (not ((parent == key) && (n == id)) && (((parent == key) && (n == id)) || is_of key (find (λ (l : Listener). l.row.id == n) ls))) ≡ is_of key (find (λ (l : Listener). l.row.id == n) ls)
    go true k =
        let same : n ≡ id = grind (arith, nat_tests, k) in
        rw (k, none same) (gone (parent == key))
    go false k = rw k (stays (parent == key) (is_of key (find (λ (l : Listener). l.row.id == n) ls)))

found_without : (id n : ℕ) (ls : List Listener) → find (λ (l : Listener). l.row.id == n) (filter (λ (l : Listener). not (l.row.id == id)) ls) ≡ (if n == id then None else find (λ (l : Listener). l.row.id == n) ls)
found_without id n [] = by_test (n == id) (λ k. rw k refl) (λ k. rw k refl)
found_without id n (l ∷ ls) =
    let ih = found_without id n ls in
    by_test (l.row.id == id)
    (λ k. by_test (n == id)
    (λ m. rw (k, m) (rw m at ih))
    (λ m. let apart : (l.row.id == n) ≡ false = grind (arith, nat_tests, k, m) in rw (k, m, apart) (rw m at ih)))
    (λ k. by_test (l.row.id == n)
    (λ m. let apart : (n == id) ≡ false = grind (arith, nat_tests, k, m) in rw (k, m, apart) refl)
    (λ m. rw (k, m) ih))

-- the index with one listener less
pub indexed_less : (id : ℕ) (gone : Listener) (ls ls' : List Listener) (marks marks' : List Mark) → AreIndexed ls marks → Some gone ≡ find (λ (l : Listener). l.row.id == id) ls
    → ls' ≡ filter (λ (l : Listener). not (l.row.id == id)) ls → Forgets (Some gone.row.parent) id marks marks' → AreIndexed ls' marks'
indexed_less id gone ls ls' marks marks' is found less forgets parent n =
    forgets parent n ∙ (ap (λ (b : Bool). not ((gone.row.parent == parent) && (n == id)) && b) (is parent n)
    ∙ (go (n == id) refl ∙ sym (ap (λ (all : List Listener). is_of parent (find (λ (l : Listener). l.row.id == n) all)) less ∙ ap (is_of parent) (found_without id n ls))))
  where
    there : n ≡ id → find (λ (l : Listener). l.row.id == n) ls ≡ Some gone
    there same = ap (λ (m : ℕ). find (λ (l : Listener). l.row.id == m) ls) same ∙ sym found

    left : (a : Bool) → (not (a && true) && a) ≡ false
    left true = refl
    left false = refl

    stays : (a b : Bool) → (not (a && false) && b) ≡ b
    stays true b = refl
    stays false b = refl

    go : (b : Bool) → (n == id) ≡ b → (not ((gone.row.parent == parent) && (n == id)) && is_of parent (find (λ (l : Listener). l.row.id == n) ls)) ≡ is_of parent (if n == id then None else find (λ (l : Listener). l.row.id == n) ls)
    go true k =
        let same : n ≡ id = grind (arith, nat_tests, k) in
        rw (k, there same) (left (gone.row.parent == parent))
    go false k = rw k (stays (gone.row.parent == parent) (is_of parent (find (λ (l : Listener). l.row.id == n) ls)))

-- where none is taken out, all is as it was
pub indexed_same : (id : ℕ) (ls ls' : List Listener) (marks : List Mark) → AreIndexed ls marks → None ≡ find (λ (l : Listener). l.row.id == id) ls → ls' ≡ filter (λ (l : Listener). not (l.row.id == id)) ls → AreIndexed ls' marks
indexed_same id ls ls' marks is none less = subst (λ (all : List Listener). AreIndexed all marks) (sym (less ∙ keeps ls none)) is
  where
    keeps : (all : List Listener) → None ≡ find (λ (l : Listener). l.row.id == id) all → filter (λ (l : Listener). not (l.row.id == id)) all ≡ all
    keeps [] none = refl
    keeps (l ∷ all) none =
        by_test (l.row.id == id)
        (λ k. let there : None ≡ Some l = rw k at none in absurd (cc))
        (λ k. rw k (ap (λ (rest : List Listener). l ∷ rest) (keeps all (rw k at none))))

-- a count that is set moves no listener
pub indexed_counted : (r : Recount) (ls ls' : List Listener) (marks : List Mark) → AreIndexed ls marks → ls' ≡ with_count r ls → AreIndexed ls' marks
indexed_counted r ls ls' marks is set parent id = is parent id ∙ (sym (same ls) ∙ ap (λ (all : List Listener). is_of parent (find (λ (l : Listener). l.row.id == id) all)) (sym set))
  where
    same : (all : List Listener) → is_of parent (find (λ (l : Listener). l.row.id == id) (with_count r all)) ≡ is_of parent (find (λ (l : Listener). l.row.id == id) all)
    same [] = refl
    same (l ∷ all) =
        let ih = same all in
        by_test (l.row.id == r.id)
        (λ k. by_test (l.row.id == id) (λ m. rw (k, m) refl) (λ m. rw (k, m) ih))
        (λ k. by_test (l.row.id == id) (λ m. rw (k, m) refl) (λ m. rw (k, m) ih))

-- where no number stands under a parent, no listener has it
pub none_of : (parent : ℕ) (ls : List Listener) (marks : List Mark) → Ascend (λ (l : Listener). l.row.id) ls → AreIndexed ls marks → ((n : ℕ) → is_marked parent n marks ≡ false) → All (λ (l : Listener). (l.row.parent == parent) ≡ false) ls
none_of parent ls marks up is none =
    All-from_recursion (λ (l : Listener). (l.row.parent == parent) ≡ false) ls
    (all_weaker (λ (l : Listener). find (λ (other : Listener). other.row.id == l.row.id) ls ≡ Some l) (λ (l : Listener). (l.row.parent == parent) ≡ false)
    (λ l found. sym (ap (is_of parent) found) ∙ (sym (is parent l.row.id) ∙ none l.row.id)) ls (found_each ls up))

-- the first number under a parent is that of one of its listeners
pub first_listener : (parent : ℕ) (found : Option ℕ) (ls : List Listener) (marks : List Mark) → Ascend (λ (l : Listener). l.row.id) ls → AreIndexed ls marks
    → MatchOption found ((n : ℕ) → is_marked parent n marks ≡ false) (λ n. is_marked parent n marks ≡ true)
    → MatchOption found (All (λ (l : Listener). (l.row.parent == parent) ≡ false) ls) (λ id. is_of parent (find (λ (l : Listener). l.row.id == id) ls) ≡ true)
first_listener parent None ls marks up is none = none_of parent ls marks up is none
first_listener parent (Some id) ls marks up is there = sym (is parent id) ∙ there

-- to take out one of a parent changes nothing for those of others
pub others_stay : (parent id : ℕ) (ls : List Listener) → Ascend (λ (l : Listener). l.row.id) ls → is_of parent (find (λ (l : Listener). l.row.id == id) ls) ≡ true
    → filter (λ (l : Listener). not (l.row.parent == parent)) (filter (λ (l : Listener). not (l.row.id == id)) ls) ≡ filter (λ (l : Listener). not (l.row.parent == parent)) ls
others_stay parent id [] up its = refl
others_stay parent id (l ∷ ls) up its =
    by_test (l.row.id == id)
    (λ k.
    let here : (l.row.parent == parent) ≡ true = rw k at its in
    let rest = filter_none id_of id ls (all_weaker (λ (later : Listener). l.row.id < later.row.id) (λ (later : Listener). later.row.id ≢ id) (λ later more same. grind (arith, nat_tests, k, more, same)) ls up.0) in
    rw (k, here, rest) refl)
    (λ k.
    let ih = others_stay parent id ls up.1 (rw k at its) in
    by_test (l.row.parent == parent) (λ m. rw (k, m) ih) (λ m. rw (k, m) (ap (λ (rest : List Listener). l ∷ rest) ih)))

fewer : (id : ℕ) (ls : List Listener) → length (filter (λ (l : Listener). not (l.row.id == id)) ls) ≤ length ls
fewer id [] = omega arith
fewer id (l ∷ ls) =
    let ih = fewer id ls in
    by_test (l.row.id == id) (λ k. rw k (omega (arith, ih))) (λ k. rw k (omega (arith, ih)))

-- and leaves fewer
pub one_fewer : (parent id : ℕ) (ls : List Listener) → is_of parent (find (λ (l : Listener). l.row.id == id) ls) ≡ true → length (filter (λ (l : Listener). not (l.row.id == id)) ls) < length ls
one_fewer parent id [] its = absurd (cc)
one_fewer parent id (l ∷ ls) its =
    by_test (l.row.id == id)
    (λ k. let less = fewer id ls in rw k (omega (arith, less)))
    (λ k. let ih = one_fewer parent id ls (rw k at its) in rw k (omega (arith, ih)))

-- where none has a parent, all are of others
pub all_others : (parent : ℕ) (ls : List Listener) → All (λ (l : Listener). (l.row.parent == parent) ≡ false) ls → filter (λ (l : Listener). not (l.row.parent == parent)) ls ≡ ls
all_others parent ls none = go ls (recursion_from_All (λ (l : Listener). (l.row.parent == parent) ≡ false) ls none)
  where
    go : (all : List Listener) → AllByRecursion (λ (l : Listener). (l.row.parent == parent) ≡ false) all → filter (λ (l : Listener). not (l.row.parent == parent)) all ≡ all
    go [] each = refl
    go (l ∷ all) each = rw each.0 (ap (λ (rest : List Listener). l ∷ rest) (go all each.1))

later_not_in : (parent q : ℕ) (ls : List Listener) → AllByRecursion (λ (l : Listener). q < l.row.id) ls → is_in q (map id_of (filter (λ (l : Listener). l.row.parent == parent) ls)) ≡ false
later_not_in parent q [] above = refl
later_not_in parent q (l ∷ ls) above =
    let ih = later_not_in parent q ls above.1 in
    let apart : (l.row.id == q) ≡ false = grind (arith, nat_tests, above.0) in
    by_test (l.row.parent == parent) (λ k. rw (k, apart) ih) (λ k. rw k ih)

in_listed : (parent q : ℕ) (ls : List Listener) → Ascend (λ (l : Listener). l.row.id) ls → is_in q (map id_of (filter (λ (l : Listener). l.row.parent == parent) ls)) ≡ is_of parent (find (λ (l : Listener). l.row.id == q) ls)
in_listed parent q [] up = refl
in_listed parent q (l ∷ ls) up =
    let ih = in_listed parent q ls up.1 in
    by_test (l.row.id == q)
    (λ k.
    let later = later_not_in parent q ls (all_weaker (λ (later : Listener). l.row.id < later.row.id) (λ (later : Listener). q < later.row.id) (λ later more. grind (arith, nat_tests, k, more)) ls up.0) in
    by_test (l.row.parent == parent) (λ m. rw (m, k, m) refl) (λ m. rw (m, k, m) later))
    (λ k. by_test (l.row.parent == parent) (λ m. rw (m, k) ih) (λ m. rw (m, k) ih))

-- the numbers under a parent are those of its listeners
pub under_parent : (parent : ℕ) (ls : List Listener) (marks : List Mark) → Ascend (λ (l : Listener). l.row.id) ls → AreIndexed ls marks → Ascend (λ n. n) (under parent marks)
    → under parent marks ≡ map (λ (l : Listener). l.row.id) (filter (λ (l : Listener). l.row.parent == parent) ls)
under_parent parent ls marks up is rising =
    same_numbers (under parent marks) (map id_of (filter (λ (l : Listener). l.row.parent == parent) ls)) rising
    (ascend_map (λ n. n) id_of (filter (λ (l : Listener). l.row.parent == parent) ls) (ascend_filter id_of (λ (l : Listener). l.row.parent == parent) ls up))
    (λ q. in_under parent q marks ∙ (is parent q ∙ sym (in_listed parent q ls up)))

-- a count that is set for nobody
pub set_nobody : (r : Recount) (ls : List Listener) → AllByRecursion (λ (l : Listener). l.row.id ≢ r.id) ls → with_count r ls ≡ ls
set_nobody r [] all = refl
set_nobody r (l ∷ ls) all =
    let other : (l.row.id == r.id) ≡ false = grind (arith, nat_tests, all.0) in
    rw other (ap (λ (rest : List Listener). l ∷ rest) (set_nobody r ls all.1))

first_is : (after : Option ℕ) (ids : List ℕ) → first_of (filter (λ n. is_behind after n) ids) ≡ first_behind after ids
first_is None [] = refl
first_is None (id ∷ ids) = refl
first_is (Some after) [] = refl
first_is (Some after) (id ∷ ids) =
    let ih = first_is (Some after) ids in
    by_test (is_behind (Some after) id) (λ k. rw k refl) (λ k. rw k ih)

-- the next one under a parent is the next of its listeners
pub next_listener : (parent : ℕ) (after found : Option ℕ) (ls : List Listener) (marks : List Mark) → Ascend (λ (l : Listener). l.row.id) ls → AreIndexed ls marks → Ascend (λ n. n) (under parent marks)
    → found ≡ first_of (filter (λ n. is_behind after n) (under parent marks)) → found ≡ first_behind after (map (λ (l : Listener). l.row.id) (filter (λ (l : Listener). l.row.parent == parent) ls))
next_listener parent after found ls marks up is rising next =
    next ∙ (first_is after (under parent marks) ∙ ap (first_behind after) (under_parent parent ls marks up is rising))
