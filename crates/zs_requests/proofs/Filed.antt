-- How the query values and the index of their requests go together.
use Rattle.std.proofs.Common.{◌≡◌, ℕ, ◌+◌, ◌<◌, ◌≤◌, Bool, true, false, List, [], ◌∷◌, ◌++◌, length, Option, Some, None, refl, sym, ap, ◌∙◌, subst, true≢false, arith}
use Rattle.std.specs.Prelude.{◌==◌, ◌&&◌, ◌||◌, nat_lt, not, filter, is_some, MatchOption, if◌then◌else◌}
use Rattle.std.specs.List.{AllByRecursion, list_any}
use Rattle.std.proofs.lemmas.Bool.Decides.{nat_tests}
use Rattle.zs_rows.specs.Ascending.{Ascend, placed}
use Rattle.zs_rows.specs.Index.{is_marked, names, row_names, Notes, Forgets, IsSame, NotesFrom, ForgetsFrom, IsIndexOf}
use Rattle.zs_rows.specs.Rows.{row_at, without_row, placed_row, Updates, AreNumbered, rows_of, from_number, is_between, AreFree}
use Rattle.zs_rows.specs.declared.mark.Mark.{Mark}
use Rattle.zs_rows.proofs.Ending.{number_found, all_found}
use Rattle.zs_rows.proofs.Following.{placed_found, numbered_between, all_undone}
use Rattle.zs_rows.proofs.Indexing.{index_none, index_more, index_less, index_kept, index_as, index_free, undone}
use Rattle.zs_rows.proofs.Numbered.{row_of_number, numbers_filtered, rows_without, rows_placed, numbered_without, numbered_placed}
use Rattle.zs_rows.proofs.Ascending.{all_weaker, all_fail, all_placed}
use Rattle.zs_requests.specs.declared.query_value.QueryValue.{QueryValue}
use Rattle.zs_requests.specs.declared.request_row.RequestRow.{RequestRow}
use Rattle.zs_requests.specs.declared.requests.Finished.TheVariants.{MoreLeft, Last}
use Rattle.zs_requests.specs.Unfinished.{value_at, are_used, values_from, has_other, finished, AreInOrder}
use Rattle.zs_requests.specs.ValueRows.{request_of, IsAnother, AreFiled}
use Rattle.zs_requests.proofs.Requesting.{values_of, values_ascend, in_order_placed, in_order_without, found_request, finished_is}

abbrev number_of : QueryValue → ℕ
number_of v = v.value

pub filed_none : AreFiled 0 [] []
filed_none = record { numbered = tt; rising = tt; order = record { ascending = tt; numbers = tt; requests = tt }; requests = index_none request_of }

-- a number's row is the value of that number
pub values_found : (handed n : ℕ) (rows : List (ℕ × QueryValue)) (marks : List Mark) → AreFiled handed rows marks → row_at n rows ≡ value_at n (rows_of rows)
values_found handed n rows marks is = row_of_number number_of n rows is.numbered

-- whether one of some numbers is used
pub used_is : (first end : ℕ) (rows : List (ℕ × QueryValue)) → AreNumbered number_of rows → list_any (λ (e : ℕ × QueryValue). is_between first end e.0) rows ≡ are_used first end (rows_of rows)
used_is first end [] are = refl
used_is first end (e ∷ rows) are = rw (are.0, used_is first end rows are.1) refl

-- numbers that are not used have no row
pub unused_at : (first end : ℕ) (rows : List (ℕ × QueryValue)) → AreNumbered number_of rows → are_used first end (rows_of rows) ≡ false → (q : ℕ) → first ≤ q → q < end → is_some (row_at q rows) ≡ false
unused_at first end rows are none q le lt = none_at rows (all_fail (λ (e : ℕ × QueryValue). is_between first end e.0) rows (used_is first end rows are ∙ none))
  where
    none_at : (more : List (ℕ × QueryValue)) → AllByRecursion (λ (e : ℕ × QueryValue). is_between first end e.0 ≡ false) more → is_some (row_at q more) ≡ false
    none_at [] all = refl
    none_at (e ∷ more) all = grind (arith, nat_tests, all.0, le, lt, none_at more all.1)

-- the next request has no mark yet
pub no_mark : (handed : ℕ) (rows : List (ℕ × QueryValue)) (marks : List Mark) → AreFiled handed rows marks → (n : ℕ) → is_marked handed n marks ≡ false
no_mark handed rows marks is n = is.requests handed n ∙ go (row_at n rows) refl
  where
    go : (r : Option QueryValue) → row_at n rows ≡ r → row_names request_of handed (row_at n rows) ≡ false
    go None row = rw row refl
    go (Some v) row =
        let below = found_request handed n v (rows_of rows) is.order.requests (sym (values_found handed n rows marks is) ∙ row) in
        rw row (other below)
      where
        other : v.request < handed → names handed (Some v.request) ≡ false
        other lt = grind (arith, nat_tests, lt)

rows_numbered : (first : ℕ) (vs : List QueryValue) → rows_of (from_number first vs) ≡ vs
rows_numbered first [] = refl
rows_numbered first (v ∷ vs) = ap (λ rest. v ∷ rest) (rows_numbered (first + 1) vs)

rows_joined : (xs ys : List (ℕ × QueryValue)) → rows_of (xs ++ ys) ≡ rows_of xs ++ rows_of ys
rows_joined [] ys = refl
rows_joined (x ∷ xs) ys = ap (λ rest. x.1 ∷ rest) (rows_joined xs ys)

-- the values with those of a request
pub values_placed : (first : ℕ) (vs : List QueryValue) (rows : List (ℕ × QueryValue)) → AreNumbered number_of rows → rows_of (placed (λ (e : ℕ × QueryValue). e.0) first (from_number first vs) rows) ≡ placed number_of first vs (rows_of rows)
values_placed first vs rows are =
    rows_joined (filter (λ (e : ℕ × QueryValue). nat_lt e.0 first) rows) (from_number first vs ++ filter (λ (e : ℕ × QueryValue). not (nat_lt e.0 first)) rows)
    ∙ rw (numbers_filtered number_of (λ m. nat_lt m first) rows are, rows_joined (from_number first vs) (filter (λ (e : ℕ × QueryValue). not (nat_lt e.0 first)) rows), rows_numbered first vs, numbers_filtered number_of (λ m. not (nat_lt m first)) rows are) refl

pub length_values : (first request : ℕ) (row : RequestRow) (qs : List ℕ) → length (values_from first request row qs) ≡ length qs
length_values first request row [] = refl
length_values first request row (q ∷ qs) = omega (arith, length_values (first + 1) request row qs)

handed_numbered : (first request : ℕ) (row : RequestRow) (qs : List ℕ) → AreNumbered number_of (from_number first (values_from first request row qs))
handed_numbered first request row [] = tt
handed_numbered first request row (q ∷ qs) = (refl, handed_numbered (first + 1) request row qs)

-- each value of a request names it
handed_named : (k n first request : ℕ) (row : RequestRow) (qs : List ℕ) → is_between first (first + length qs) n ≡ true → row_names request_of k (row_at n (from_number first (values_from first request row qs))) ≡ names k (Some request)
handed_named k n first request row [] inside = absurd (clash inside)
  where
    clash : is_between first (first + 0) n ≡ true → ⊥
    clash p = grind (arith, nat_tests, p)
handed_named k n first request row (q ∷ qs) inside = go (first == n) refl (handed_named k n (first + 1) request row qs)
  where
    vs : List (ℕ × QueryValue)
    vs = from_number (first + 1) (values_from (first + 1) request row qs)

    one : QueryValue
    one = record { value = first; queryable = q; request = request; row = row }

    go : (b : Bool) → (first == n) ≡ b → (is_between (first + 1) (first + 1 + length qs) n ≡ true → row_names request_of k (row_at n vs) ≡ names k (Some request)) → row_names request_of k (if first == n then Some one else row_at n vs) ≡ names k (Some request)
    go true here more = rw here refl
    go false apart more = rw apart (more (grind (arith, nat_tests, inside, apart)))

-- with the values of one request more
pub filed_hand : (handed first : ℕ) (row : RequestRow) (qs : List ℕ) (rows rows' : List (ℕ × QueryValue)) (marks marks' : List Mark) → AreFiled handed rows marks → are_used first (first + length qs) (rows_of rows) ≡ false → first + length qs ≤ 4294967295 → AreFree first (first + length qs) rows → NotesFrom handed first (first + length qs) marks marks' → rows' ≡ placed (λ (e : ℕ × QueryValue). e.0) first (from_number first (values_from first handed row qs)) rows → Ascend (λ (e : ℕ × QueryValue). e.0) rows' → AreFiled (handed + 1) rows' marks'
filed_hand handed first row qs rows rows' marks marks' is none room free notes put up = record {
  numbered = subst (AreNumbered number_of) (sym put) (all_placed (λ (e : ℕ × QueryValue). number_of e.1 ≡ e.0) (λ (e : ℕ × QueryValue). e.0) first (from_number first vs) rows is.numbered (handed_numbered first handed row qs));
  rising = up;
  order = subst (AreInOrder (handed + 1)) (sym (ap rows_of put ∙ values_placed first vs rows is.numbered))
      (in_order_placed handed (handed + 1) handed first (first + length qs) vs (rows_of rows) is.order (values_ascend handed first row qs) (values_of handed first (first + length qs) first row qs (omega arith) (omega arith)) none (omega arith) room (omega arith) (omega arith));
  requests = marked;
}
  where
    vs : List QueryValue
    vs = values_from first handed row qs

    lie : AllByRecursion (λ (e : ℕ × QueryValue). (first ≤ e.0) × (e.0 < first + length qs)) (from_number first vs)
    lie = subst (λ n. AllByRecursion (λ (e : ℕ × QueryValue). (first ≤ e.0) × (e.0 < first + n)) (from_number first vs)) (length_values first handed row qs) (numbered_between first vs)

    marked : IsIndexOf request_of rows' marks'
    marked k n = notes k n ∙ (rw (is.requests k n, ap (row_at n) put ∙ placed_found first (first + length qs) (from_number first vs) rows is.rising free lie n) (go (is_between first (first + length qs) n) refl))
      where
        go : (b : Bool) → is_between first (first + length qs) n ≡ b → ((names k (Some handed) && is_between first (first + length qs) n) || row_names request_of k (row_at n rows)) ≡ row_names request_of k (if is_between first (first + length qs) n then row_at n (from_number first vs) else row_at n rows)
        go true inside =
            let gone : row_names request_of k (row_at n rows) ≡ false = ap (row_names request_of k) (none_row (row_at n rows) (unused_at first (first + length qs) rows is.numbered none n (from_le inside) (to_lt inside))) in
            rw (inside, gone, handed_named k n first handed row qs inside) (or_false (names k (Some handed)))
          where
            from_le : is_between first (first + length qs) n ≡ true → first ≤ n
            from_le p = grind (arith, nat_tests, p)

            to_lt : is_between first (first + length qs) n ≡ true → n < first + length qs
            to_lt p = grind (arith, nat_tests, p)

            none_row : (r : Option QueryValue) → is_some r ≡ false → r ≡ None
            none_row None p = refl
            none_row (Some v) p = cc

            or_false : (s : Bool) → ((s && true) || false) ≡ s
            or_false true = refl
            or_false false = refl
        go false outside = rw outside (no (names k (Some handed)))
          where
            no : (s : Bool) → ((s && false) || row_names request_of k (row_at n rows)) ≡ row_names request_of k (row_at n rows)
            no true = refl
            no false = refl

-- with a share of a value
pub filed_share : (handed new : ℕ) (v share : QueryValue) (rows rows' : List (ℕ × QueryValue)) (marks marks' : List Mark) → AreFiled handed rows marks → share.value ≡ new → share.request ≡ v.request → v.request < handed → are_used new (new + 1) (rows_of rows) ≡ false → new < 4294967295 → is_some (row_at new rows) ≡ false → rows' ≡ placed_row new share rows → Updates new (Some share) rows rows' → Ascend (λ (e : ℕ × QueryValue). e.0) rows' → Notes (Some share.request) new marks marks' → AreFiled handed rows' marks'
filed_share handed new v share rows rows' marks marks' is number request below none room free put found up notes = record {
  numbered = subst (AreNumbered number_of) (sym put) (numbered_placed number_of new share rows is.numbered number);
  rising = up;
  order = subst (AreInOrder handed) (sym (ap rows_of put ∙ rows_placed number_of new share rows is.numbered))
      (in_order_placed handed handed v.request new (new + 1) (share ∷ []) (rows_of rows) is.order (tt, tt) (record { above = omega (arith, number); below = omega (arith, number); same = request }, tt) none (omega arith) (omega arith) (omega arith) below);
  requests = index_more request_of new share rows rows' marks marks' free found notes is.requests;
}

-- without a value
pub filed_without : (handed n : ℕ) (v : QueryValue) (rows rows' : List (ℕ × QueryValue)) (marks marks' : List Mark) → AreFiled handed rows marks → row_at n rows ≡ Some v → rows' ≡ without_row n rows → Updates n None rows rows' → Ascend (λ (e : ℕ × QueryValue). e.0) rows' → Forgets (Some v.request) n marks marks' → AreFiled handed rows' marks'
filed_without handed n v rows rows' marks marks' is there left found up forgets = record {
  numbered = subst (AreNumbered number_of) (sym left) (numbered_without number_of n rows is.numbered);
  rising = up;
  order = subst (AreInOrder handed) (sym (ap rows_of left ∙ rows_without number_of n rows is.numbered)) (in_order_without handed n (rows_of rows) is.order);
  requests = index_less request_of n v rows rows' marks marks' there found forgets is.requests;
}

pub filed_kept : (handed n : ℕ) (rows rows' : List (ℕ × QueryValue)) (marks : List Mark) → AreFiled handed rows marks → row_at n rows ≡ None → rows' ≡ without_row n rows → Updates n None rows rows' → Ascend (λ (e : ℕ × QueryValue). e.0) rows' → AreFiled handed rows' marks
filed_kept handed n rows rows' marks is none left found up = record {
  numbered = subst (AreNumbered number_of) (sym left) (numbered_without number_of n rows is.numbered);
  rising = up;
  order = subst (AreInOrder handed) (sym (ap rows_of left ∙ rows_without number_of n rows is.numbered)) (in_order_without handed n (rows_of rows) is.order);
  requests = index_kept request_of n rows rows' marks none found is.requests;
}

pub filed_as : (handed : ℕ) (rows : List (ℕ × QueryValue)) (marks marks' : List Mark) → IsSame marks marks' → AreFiled handed rows marks → AreFiled handed rows marks'
filed_as handed rows marks marks' same is = record { numbered = is.numbered; rising = is.rising; order = is.order; requests = index_as request_of rows marks marks' same is.requests }

-- a row that passes a test is one of those that a test of all finds
passes_any : (p : QueryValue → Bool) (n : ℕ) (v : QueryValue) (rows : List (ℕ × QueryValue)) → row_at n rows ≡ Some v → p v ≡ true → list_any p (rows_of rows) ≡ true
passes_any p n v [] there is = absurd (none_some there)
  where
    none_some : None ≡ Some v → ⊥
    none_some e = cc
passes_any p n v (e ∷ rows) there is = go (e.0 == n) refl (passes_any p n v rows)
  where
    or_true : (a b : Bool) → b ≡ true → (a || b) ≡ true
    or_true true b q = refl
    or_true false b q = q

    some_same : Some e.1 ≡ Some v → e.1 ≡ v
    some_same q = cc

    go : (b : Bool) → (e.0 == n) ≡ b → (row_at n rows ≡ Some v → p v ≡ true → list_any p (rows_of rows) ≡ true) → list_any p (rows_of (e ∷ rows)) ≡ true
    go true here more = rw (ap p (some_same (sym (ap (λ b. if b then Some e.1 else row_at n rows) here) ∙ there)) ∙ is) refl
    go false apart more = or_true (p e.1) (list_any p (rows_of rows)) (more (sym (ap (λ b. if b then Some e.1 else row_at n rows) apart) ∙ there) is)

-- a test that no row passes
none_any : (p : QueryValue → Bool) (rows : List (ℕ × QueryValue)) → AllByRecursion (λ (e : ℕ × QueryValue). p e.1 ≡ false) rows → list_any p (rows_of rows) ≡ false
none_any p [] all = refl
none_any p (e ∷ rows) all = rw (all.0, none_any p rows all.1) refl

-- a mark is that of a value of the request
marked_value : (handed k n : ℕ) (rows : List (ℕ × QueryValue)) (marks : List Mark) → AreFiled handed rows marks → is_marked k n marks ≡ true → (v : QueryValue) × (row_at n rows ≡ Some v) × (v.request ≡ k)
marked_value handed k n rows marks is marked = go (row_at n rows) refl
  where
    named_is : (j : ℕ) → names k (Some j) ≡ true → j ≡ k
    named_is j p = grind (arith, nat_tests, p)

    go : (r : Option QueryValue) → row_at n rows ≡ r → (v : QueryValue) × (row_at n rows ≡ Some v) × (v.request ≡ k)
    go None row = absurd (true≢false (sym marked ∙ (is.requests k n ∙ ap (row_names request_of k) row)))
    go (Some v) row = (v, row, named_is v.request (sym (ap (row_names request_of k) row) ∙ (sym (is.requests k n) ∙ marked)))

request_test : (k j : ℕ) → j ≡ k → (j == k) ≡ true
request_test k j same = grind (arith, nat_tests, same)

-- whether a request has a value, by the first of its numbers
pub any_marked : (handed k : ℕ) (rows : List (ℕ × QueryValue)) (marks : List Mark) → AreFiled handed rows marks → (r : Option ℕ) → MatchOption r ((n : ℕ) → is_marked k n marks ≡ false) (λ n. is_marked k n marks ≡ true) → is_some r ≡ list_any (λ (o : QueryValue). o.request == k) (rows_of rows)
any_marked handed k rows marks is None none = sym (none_any (λ (o : QueryValue). o.request == k) rows (all_weaker (λ (e : ℕ × QueryValue). row_at e.0 rows ≡ Some e.1) (λ (e : ℕ × QueryValue). (e.1.request == k) ≡ false) (λ e found. sym (ap (row_names request_of k) found) ∙ (sym (is.requests k e.0) ∙ none e.0)) rows (all_found rows is.rising)))
any_marked handed k rows marks is (Some n) one =
    let v = marked_value handed k n rows marks is one in
    sym (passes_any (λ (o : QueryValue). o.request == k) n v.0 rows v.1 (request_test k v.0.request v.2))

-- whether a request has another value
pub other_marked : (handed : ℕ) (v : QueryValue) (rows : List (ℕ × QueryValue)) (marks : List Mark) → AreFiled handed rows marks → (b : Bool) → IsAnother v.request v.value marks b → b ≡ has_other v (rows_of rows)
other_marked handed v rows marks is true one =
    let o = marked_value handed v.request one.0 rows marks is one.1 in
    let number = number_found number_of one.0 o.0 rows is.numbered o.1 in
    sym (passes_any (λ (w : QueryValue). (w.request == v.request) && not (w.value == v.value)) one.0 o.0 rows o.1 (both (request_test v.request o.0.request o.2) (differs o.0.value number)))
  where
    differs : (m : ℕ) → m ≡ one.0 → not (m == v.value) ≡ true
    differs m same = grind (arith, nat_tests, same, one.2)

    both : {a b : Bool} → a ≡ true → b ≡ true → (a && b) ≡ true
    both p q = λ i. p i && q i
other_marked handed v rows marks is false none = sym (none_any (λ (w : QueryValue). (w.request == v.request) && not (w.value == v.value)) rows (all_weaker (λ (e : ℕ × QueryValue). row_at e.0 rows ≡ Some e.1) (λ (e : ℕ × QueryValue). ((e.1.request == v.request) && not (e.1.value == v.value)) ≡ false) one_fails rows (all_found rows is.rising)))
  where
    one_fails : (e : ℕ × QueryValue) → row_at e.0 rows ≡ Some e.1 → ((e.1.request == v.request) && not (e.1.value == v.value)) ≡ false
    one_fails e found = go (e.1.request == v.request) refl
      where
        number : e.1.value ≡ e.0
        number = number_found number_of e.0 e.1 rows is.numbered found

        same_number : e.0 ≡ v.value → not (e.1.value == v.value) ≡ false
        same_number p = grind (arith, nat_tests, p, number)

        go : (b : Bool) → (e.1.request == v.request) ≡ b → ((e.1.request == v.request) && not (e.1.value == v.value)) ≡ false
        go true here = rw here (same_number (none e.0 (is.requests v.request e.0 ∙ (ap (row_names request_of v.request) found ∙ here))))
        go false apart = rw apart refl

-- whether another number stands under a key, by the next one behind it and the first
pub another_next : (key number n : ℕ) (marks : List Mark) → (number < n) × (is_marked key n marks ≡ true) → IsAnother key number marks true
another_next key number n marks is = (n, is.1, λ same. omega (arith, same, is.0))

pub another_first : (key number n : ℕ) (marks : List Mark) → n < number → is_marked key n marks ≡ true → IsAnother key number marks true
another_first key number n marks lt is = (n, is, λ same. omega (arith, same, lt))

pub another_none : (key number first : ℕ) (marks : List Mark) → ((n : ℕ) → number < n → is_marked key n marks ≡ false) → ((m : ℕ) → is_marked key m marks ≡ true → first ≤ m) → (first < number → ⊥) → IsAnother key number marks false
another_none key number first marks behind least le n marked = same (nat_lt number n) refl
  where
    low : first ≤ n
    low = least n marked

    over : nat_lt number n ≡ true → number < n
    over p = grind (arith, nat_tests, p)

    same : (b : Bool) → nat_lt number n ≡ b → n ≡ number
    same true lt = absurd (true≢false (sym marked ∙ behind n (over lt)))
    same false ge = grind (arith, nat_tests, ge, low, le)

-- the numbers below their end, by the rows
pub rows_below : (rows : List (ℕ × QueryValue)) → AreNumbered number_of rows → AllByRecursion (λ (v : QueryValue). v.value < 4294967295) (rows_of rows) → AllByRecursion (λ (e : ℕ × QueryValue). e.0 < 4294967295) rows
rows_below [] are all = tt
rows_below (e ∷ rows) are all = (omega (arith, are.0, all.0), rows_below rows are.1 all.1)

-- a share's number has no row
pub share_free : (handed new : ℕ) (rows : List (ℕ × QueryValue)) (marks : List Mark) → AreFiled handed rows marks → are_used new (new + 1) (rows_of rows) ≡ false → is_some (row_at new rows) ≡ false
share_free handed new rows marks is none = unused_at new (new + 1) rows is.numbered none new (omega arith) (omega arith)

-- a share's mark, taken back
pub share_undone : (handed new : ℕ) (key : Option ℕ) (rows : List (ℕ × QueryValue)) (marks between after : List Mark) → AreFiled handed rows marks → is_some (row_at new rows) ≡ false → Notes key new marks between → Forgets key new between after → AreFiled handed rows after
share_undone handed new key rows marks between after is free notes forgets = filed_as handed rows marks after (undone key new marks between after (index_free request_of new rows marks free is.requests) notes forgets) is

-- the values of a request, taken back
pub hand_undone : (handed first end : ℕ) (rows : List (ℕ × QueryValue)) (marks between after : List Mark) → AreFiled handed rows marks → NotesFrom handed first end marks between → ForgetsFrom handed first end between after → AreFiled handed rows after
hand_undone handed first end rows marks between after is notes forgets = filed_as handed rows marks after (all_undone handed first end marks between after (no_mark handed rows marks is) notes forgets) is

-- what giving a value back comes to, by the marks that are left
pub finished_by : (handed n : ℕ) (v : QueryValue) (rows rows' : List (ℕ × QueryValue)) (marks' : List Mark) (r : Option ℕ) → AreNumbered number_of rows → row_at n rows ≡ Some v → rows' ≡ without_row n rows → AreFiled handed rows' marks' → MatchOption r ((m : ℕ) → is_marked v.request m marks' ≡ false) (λ m. is_marked v.request m marks' ≡ true) → (if is_some r then MoreLeft else Last v.row) ≡ finished (value_at n (rows_of rows)) (rows_of rows)
finished_by handed n v rows rows' marks' r are there left is found =
    finished_is n (rows_of rows) v (is_some r) (sym (row_of_number number_of n rows are) ∙ there) (number_found number_of n v rows are there)
    (any_marked handed v.request rows' marks' is r found ∙ ap (list_any (λ (o : QueryValue). o.request == v.request)) (ap rows_of left ∙ rows_without number_of n rows are))

-- how many values a request has, by the rows
pub count_is : (request : ℕ) (rows : List (ℕ × QueryValue)) → length (filter (λ (e : ℕ × QueryValue). e.1.request == request) rows) ≡ length (filter (λ (o : QueryValue). o.request == request) (rows_of rows))
count_is request [] = refl
count_is request (e ∷ rows) = go (e.1.request == request) refl (count_is request rows)
  where
    go : (b : Bool) → (e.1.request == request) ≡ b → length (filter (λ (f : ℕ × QueryValue). f.1.request == request) rows) ≡ length (filter (λ (o : QueryValue). o.request == request) (rows_of rows)) → length (filter (λ (f : ℕ × QueryValue). f.1.request == request) (e ∷ rows)) ≡ length (filter (λ (o : QueryValue). o.request == request) (rows_of (e ∷ rows)))
    go true is more = rw is (omega (arith, more))
    go false is more = rw is more
