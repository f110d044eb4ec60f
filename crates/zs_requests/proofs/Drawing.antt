-- The table of unfinished values follows what is heard of them, and the values stay below the counter.
use Rattle.std.proofs.Common.{◌≡◌, ◌≢◌, ℕ, ◌+◌, ◌<◌, Bool, true, false, List, [], ◌∷◌, ◌++◌, length, Option, Some, None, refl, sym, ap, ◌∙◌, arith}
use Rattle.std.specs.Prelude.{◌==◌, ◌||◌, not, map, filter, is_some}
use Rattle.std.specs.List.{AllByRecursion, list_any}
use Rattle.std.proofs.lemmas.Bool.Decides.{nat_tests}
use Rattle.std.proofs.lemmas.List.{map-append}
use Rattle.std.proofs.lemmas.List.Elements.{filter-append}
use Rattle.zs_requests.specs.declared.query_value.QueryValue.{QueryValue}
use Rattle.zs_requests.specs.declared.request_row.RequestRow.{RequestRow}
use Rattle.zs_requests.specs.Unfinished.{Unfinished, value_at, are_used, values_from, with_request, shared, without_value}
use Rattle.zs_requests.specs.RequestTable.{Handing, with_handed, with_share, with_shared}
use Rattle.zs_requests.specs.Drawn.{Drew, GaveBack, Drawn, just_drawn, giving_back, drawn, is_unfinished, unfinished, ValuesAreTold, has_value, EndedRequestsStay}
use Rattle.zs_rows.proofs.Ascending.{all_weaker, all_append, all_filter}
use Rattle.zs_requests.proofs.Requesting.{AreOf, values_of, placed_last}

-- the unfinished ones of values that were drawn
abbrev left_of : List Drawn → List QueryValue
left_of ds = map (λ d. d.value) (filter is_unfinished ds)

-- what was drawn just now is unfinished
new_left : (values : List QueryValue) → left_of (map just_drawn values) ≡ values
new_left [] = refl
new_left (v ∷ values) = ap (λ rest. v ∷ rest) (new_left values)

back_left : (n : ℕ) (ds : List Drawn) → left_of (map (giving_back n) ds) ≡ without_value n (left_of ds)
back_left n [] = refl
back_left n (d ∷ ds) = go (d.value.value == n) refl (list_any (λ number. d.value.value == number) d.since) refl (back_left n ds)
  where
    go : (b : Bool) → (d.value.value == n) ≡ b → (c : Bool) → list_any (λ number. d.value.value == number) d.since ≡ c → left_of (map (giving_back n) ds) ≡ without_value n (left_of ds)
        → left_of (map (giving_back n) (d ∷ ds)) ≡ without_value n (left_of (d ∷ ds))
    go true is true before rest = rw (is, before) rest
    go true is false before rest = rw (is, before, is) rest
    go false is true before rest = rw (is, before) rest
    go false is false before rest = rw (is, before, is) (ap (λ more. d.value ∷ more) rest)

pub told : ValuesAreTold
told (Drew more) heard =
    ap (map (λ (d : Drawn). d.value)) (filter-append is_unfinished (drawn heard) (map just_drawn more))
    ∙ map-append (λ (d : Drawn). d.value) (filter is_unfinished (drawn heard)) (filter is_unfinished (map just_drawn more))
    ∙ ap (λ rest. unfinished heard ++ rest) (new_left more)
told (GaveBack n) heard = back_left n (drawn heard)

-- whether a value is of a request
abbrev is_of : ℕ → QueryValue → Bool
is_of request v = v.request == request

none_parts : (b c : Bool) → (b || c) ≡ false → (b ≡ false) × (c ≡ false)
none_parts true c p = absurd (cc)
none_parts false c p = (refl, p)

none_append : (request : ℕ) (xs ys : List QueryValue) → list_any (is_of request) xs ≡ false → list_any (is_of request) ys ≡ false → list_any (is_of request) (xs ++ ys) ≡ false
none_append request [] ys p q = q
none_append request (x ∷ xs) ys p q = let parts = none_parts (is_of request x) (list_any (is_of request) xs) p in rw parts.0 (none_append request xs ys parts.1 q)

none_filter : (request : ℕ) (keep : QueryValue → Bool) (xs : List QueryValue) → list_any (is_of request) xs ≡ false → list_any (is_of request) (filter keep xs) ≡ false
none_filter request keep [] p = refl
none_filter request keep (x ∷ xs) p =
    let parts = none_parts (is_of request x) (list_any (is_of request) xs) p in
    go (keep x) refl parts.0 (none_filter request keep xs parts.1)
  where
    go : (k : Bool) → keep x ≡ k → is_of request x ≡ false → list_any (is_of request) (filter keep xs) ≡ false → list_any (is_of request) (filter keep (x ∷ xs)) ≡ false
    go true keeps is rest = rw (keeps, is) rest
    go false keeps is rest = rw keeps rest

none_made : (request other first : ℕ) (row : RequestRow) (qs : List ℕ) → (other == request) ≡ false → list_any (is_of request) (values_from first other row qs) ≡ false
none_made request other first row [] differs = refl
none_made request other first row (q ∷ qs) differs = rw differs (none_made request other (first + 1) row qs differs)

-- a value that is found is of another request
none_found : (request n : ℕ) (v : QueryValue) (values : List QueryValue) → value_at n values ≡ Some v → list_any (is_of request) values ≡ false → is_of request v ≡ false
none_found request n v [] found p = absurd (cc)
none_found request n v (x ∷ xs) found p =
    let parts = none_parts (is_of request x) (list_any (is_of request) xs) p in
    go (x.value == n) refl found parts.0 (λ there. none_found request n v xs there parts.1)
  where
    go : (b : Bool) → (x.value == n) ≡ b → value_at n (x ∷ xs) ≡ Some v → is_of request x ≡ false → (value_at n xs ≡ Some v → is_of request v ≡ false) → is_of request v ≡ false
    go true here found is rest = let same : x ≡ v = (let there = rw here at found in cc) in ap (is_of request) (sym same) ∙ is
    go false here found is rest = rest (rw here at found)

pub ended_stay : EndedRequestsStay
ended_stay request h lt none = record {
  handed = handed;
  shared = λ value. shared (value_at value h.values) value refl;
  finished = λ value. none_filter request (λ v. not (v.value == value)) h.values none;
}
  where
    other : (h.handed == request) ≡ false
    other = grind (arith, nat_tests, lt)

    handed : (row : RequestRow) (qs : List ℕ) → has_value request (with_handed row qs h) ≡ false
    handed row [] = none
    handed row (q ∷ qs) = none_append request h.values (values_from h.next h.handed row (q ∷ qs)) none (none_made request h.handed h.next row (q ∷ qs) other)

    shared : (found : Option QueryValue) (value : ℕ) → value_at value h.values ≡ found → has_value request (with_share found h) ≡ false
    shared None value is = none
    shared (Some v) value is = none_append request h.values (record v { value = h.next } ∷ []) none (rw (none_found request value v h.values is none) refl)

-- the numbers of all these values are below one
abbrev pub AreBelow : ℕ → List QueryValue → Type 0
AreBelow next values = AllByRecursion (λ (v : QueryValue). v.value < next) values

-- so none of them is the next one, or above it
pub none_used : (next end : ℕ) (values : List QueryValue) → AreBelow next values → are_used next end values ≡ false
none_used next end [] all = refl
none_used next end (v ∷ values) all = grind (arith, nat_tests, all.0, none_used next end values all.1)

-- they stay below with those of one request more
pub below_handed : (next request : ℕ) (row : RequestRow) (qs : List ℕ) (values : List QueryValue) → AreBelow next values → AreBelow (next + length qs) (values ++ values_from next request row qs)
below_handed next request row qs values all =
    all_append (λ (v : QueryValue). v.value < next + length qs) values (values_from next request row qs)
    (all_weaker (λ (v : QueryValue). v.value < next) (λ (v : QueryValue). v.value < next + length qs) (λ v lt. omega (arith, lt)) values all)
    (all_weaker (AreOf request next (next + length qs)) (λ (v : QueryValue). v.value < next + length qs) (λ v is. is.below) (values_from next request row qs) (values_of request next (next + length qs) next row qs (omega arith) (omega arith)))

-- and with a share
pub below_shared : (next : ℕ) (v : QueryValue) (values : List QueryValue) → AreBelow next values → AreBelow (next + 1) (values ++ record v { value = next } ∷ [])
below_shared next v values all =
    all_append (λ (w : QueryValue). w.value < next + 1) values (record v { value = next } ∷ []) (all_weaker (λ (w : QueryValue). w.value < next) (λ (w : QueryValue). w.value < next + 1) (λ w lt. omega (arith, lt)) values all) (omega arith, tt)

-- a table with its counter, as it is seen
abbrev pub seen : Unfinished → ℕ → Handing
seen u next = record { handed = u.handed; values = u.values; next = next }

-- with the values of one request more
pub below_request : (next : ℕ) (row : RequestRow) (qs : List ℕ) (u : Unfinished) → AreBelow next u.values → AreBelow (next + length qs) (with_request next row qs u).values
below_request next row qs u all = rw (placed_last (λ (v : QueryValue). v.value) next (values_from next u.handed row qs) u.values all) (below_handed next u.handed row qs u.values all)

pub request_is : (next : ℕ) (row : RequestRow) (qs : List ℕ) (u : Unfinished) → qs ≢ [] → AreBelow next u.values → seen (with_request next row qs u) (next + length qs) ≡ with_handed row qs (seen u next)
request_is next row [] u some all = absurd (some refl)
request_is next row (q ∷ qs) u some all =
    let last = placed_last (λ (v : QueryValue). v.value) next (values_from next u.handed row (q ∷ qs)) u.values all in
    λ i. record { handed = u.handed + 1; values = last i; next = next + length (q ∷ qs) }

-- with a share
pub below_share : (next : ℕ) (found : Option QueryValue) (values : List QueryValue) → is_some found ≡ true → AreBelow next values → AreBelow (next + 1) (shared next found values)
below_share next None values some all = absurd (cc)
below_share next (Some v) values some all = rw (placed_last (λ (v : QueryValue). v.value) next (record v { value = next } ∷ []) values all) (below_shared next v values all)

share_of : (next : ℕ) (found : Option QueryValue) (u : Unfinished) → is_some found ≡ true → AreBelow next u.values
    → seen (record u { values = shared next found u.values }) (next + 1) ≡ with_share found (seen u next)
share_of next None u some all = absurd (cc)
share_of next (Some v) u some all =
    let last = placed_last (λ (v : QueryValue). v.value) next (record v { value = next } ∷ []) u.values all in
    λ i. record { handed = u.handed; values = last i; next = next + 1 }

pub share_is : (next value : ℕ) (u : Unfinished) → is_some (value_at value u.values) ≡ true → AreBelow next u.values
    → seen (record u { values = shared next (value_at value u.values) u.values }) (next + 1) ≡ with_shared value (seen u next)
share_is next value u some all = share_of next (value_at value u.values) u some all

-- without a value
pub below_finished : (next value : ℕ) (values : List QueryValue) → AreBelow next values → AreBelow next (without_value value values)
below_finished next value values all = all_filter (λ (v : QueryValue). v.value < next) (λ v. not (v.value == value)) values all
