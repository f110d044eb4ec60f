-- The unfinished values stay in order, and what giving one back comes to.
use Rattle.std.proofs.Common.{◌≡◌, ℕ, ◌+◌, ◌<◌, ◌≤◌, Bool, true, false, List, [], ◌∷◌, ◌++◌, length, take, drop, Some, refl, sym, ap, ◌∙◌, arith}
use Rattle.std.specs.Prelude.{◌==◌, ◌&&◌, nat_lt, not, filter, if◌then◌else◌}
use Rattle.std.specs.List.{AllByRecursion, list_any}
use Rattle.std.proofs.lemmas.Bool.Decides.{nat_tests}
use Rattle.std.proofs.lemmas.List.{append-nil, take-append-drop}
use Rattle.zs_requests.specs.declared.query_value.QueryValue.{QueryValue}
use Rattle.zs_requests.specs.declared.request_row.RequestRow.{RequestRow}
use Rattle.zs_requests.specs.declared.requests.Finished.TheVariants.{MoreLeft, Last}
use Rattle.zs_rows.specs.Ascending.{Ascend, placed}
use Rattle.zs_requests.specs.Unfinished.{value_at, is_between, are_used, values_from, has_other, finished, without_value, Unfinished, AreInOrder}
use Rattle.zs_rows.proofs.Ascending.{all_weaker, all_filter, all_fail, ascend_filter, ascend_placed, all_placed}

-- what is put in whole leaves nothing out
pub put_whole : {X : Type 0} (at : ℕ) (more xs ys : List X) → more ≡ [] → take at xs ++ (more ++ drop at xs) ≡ ys → xs ≡ ys
put_whole at more xs ys none is = sym (take-append-drop at xs) ∙ (sym (ap (λ m. take at xs ++ (m ++ drop at xs)) none) ∙ is)

-- the values of a request
pub record AreOf (request low high : ℕ) (v : QueryValue) : Type 0 where
  pub above : low ≤ v.value
  pub below : v.value < high
  pub same : v.request ≡ request

pub values_of : (request low high first : ℕ) (row : RequestRow) (qs : List ℕ) → low ≤ first → first + length qs ≤ high → AllByRecursion (AreOf request low high) (values_from first request row qs)
values_of request low high first row [] above below = tt
values_of request low high first row (q ∷ qs) above below =
    (record { above = above; below = omega arith; same = refl }, values_of request low high (first + 1) row qs (omega arith) (omega arith))

-- they ascend
pub values_ascend : (request first : ℕ) (row : RequestRow) (qs : List ℕ) → Ascend (λ (v : QueryValue). v.value) (values_from first request row qs)
values_ascend request first row [] = tt
values_ascend request first row (q ∷ qs) = (
  all_weaker (AreOf request (first + 1) (first + 1 + length qs)) (λ (v : QueryValue). first < v.value) (λ v is. omega (arith, is.above)) (values_from (first + 1) request row qs) (values_of request (first + 1) (first + 1 + length qs) (first + 1) row qs (omega arith) (omega arith)),
  values_ascend request (first + 1) row qs,
)

-- numbers that nobody uses
free : (first end : ℕ) (values : List QueryValue) → are_used first end values ≡ false → AllByRecursion (λ (v : QueryValue). (v.value < first → ⊥) → end ≤ v.value) values
free first end values none = all_weaker (λ (v : QueryValue). is_between first end v.value ≡ false) (λ (v : QueryValue). (v.value < first → ⊥) → end ≤ v.value) (λ v is out. apart v.value is out) values (all_fail (λ (v : QueryValue). is_between first end v.value) values none)
  where
    apart : (n : ℕ) → is_between first end n ≡ false → (n < first → ⊥) → end ≤ n
    apart n is out = grind (arith, nat_tests, is, out)

-- with values of one request more
pub in_order_placed : (handed handed' request first end : ℕ) (more values : List QueryValue) → AreInOrder handed values → Ascend (λ (v : QueryValue). v.value) more → AllByRecursion (AreOf request first end) more → are_used first end values ≡ false → first ≤ end → end ≤ 4294967295 → handed ≤ handed' → request < handed' → AreInOrder handed' (placed (λ v. v.value) first more values)
in_order_placed handed handed' request first end more values is up of none le room later lt = record {
  ascending = ascend_placed (λ (v : QueryValue). v.value) first end more values is.ascending up
      (all_weaker (AreOf request first end) (λ (v : QueryValue). first ≤ v.value) (λ v a. a.above) more of)
      (all_weaker (AreOf request first end) (λ (v : QueryValue). v.value < end) (λ v a. a.below) more of)
      le (free first end values none);
  numbers = all_placed (λ (v : QueryValue). v.value < 4294967295) (λ (v : QueryValue). v.value) first more values is.numbers
      (all_weaker (AreOf request first end) (λ (v : QueryValue). v.value < 4294967295) (λ v a. omega (arith, a.below)) more of);
  requests = all_placed (λ (v : QueryValue). v.request < handed') (λ (v : QueryValue). v.value) first more values
      (all_weaker (λ (v : QueryValue). v.request < handed) (λ (v : QueryValue). v.request < handed') (λ v a. omega (arith, a)) values is.requests)
      (all_weaker (AreOf request first end) (λ (v : QueryValue). v.request < handed') (λ v a. omega (arith, a.same)) more of);
}

-- without a value
pub in_order_without : (handed number : ℕ) (values : List QueryValue) → AreInOrder handed values → AreInOrder handed (without_value number values)
in_order_without handed number values is = record {
  ascending = ascend_filter (λ (v : QueryValue). v.value) (λ v. not (v.value == number)) values is.ascending;
  numbers = all_filter (λ (v : QueryValue). v.value < 4294967295) (λ v. not (v.value == number)) values is.numbers;
  requests = all_filter (λ (v : QueryValue). v.request < handed) (λ v. not (v.value == number)) values is.requests;
}

-- the request of a value that is found was handed out
pub found_request : (handed number : ℕ) (v : QueryValue) (values : List QueryValue) → AllByRecursion (λ (o : QueryValue). o.request < handed) values → value_at number values ≡ Some v → v.request < handed
found_request handed number v [] all is = cc
found_request handed number v (o ∷ values) all is = go (o.value == number) refl (λ rest. found_request handed number v values all.1 rest)
  where
    go : (b : Bool) → (o.value == number) ≡ b → (value_at number values ≡ Some v → v.request < handed) → v.request < handed
    go true here rest =
        let same : Some o ≡ Some v = sym (ap (λ c. if c then Some o else value_at number values) here) ∙ is in
        let eq : o ≡ v = cc in
        rw (← eq) all.0
    go false here rest = rest (sym (ap (λ c. if c then Some o else value_at number values) here) ∙ is)

-- another value of its request is one of those that are left
other_left : (request number : ℕ) (values : List QueryValue) → list_any (λ (o : QueryValue). o.request == request) (without_value number values) ≡ list_any (λ (o : QueryValue). (o.request == request) && not (o.value == number)) values
other_left request number [] = refl
other_left request number (v ∷ values) = grind (arith, nat_tests, other_left request number values)

-- what giving a value back comes to, by those that are left
pub finished_is : (number : ℕ) (values : List QueryValue) (v : QueryValue) (b : Bool) → value_at number values ≡ Some v → v.value ≡ number → b ≡ list_any (λ (o : QueryValue). o.request == v.request) (without_value number values) → (if b then MoreLeft else Last v.row) ≡ finished (value_at number values) values
finished_is number values v b found is left =
    let others : list_any (λ (o : QueryValue). o.request == v.request) (without_value number values) ≡ has_other v values = rw is (other_left v.request number values) in
    rw (found, left, others) refl

-- the same parts make the same whole
pub same_values : {handed handed' : ℕ} {values values' : List QueryValue} → handed ≡ handed' → values ≡ values' → let left : Unfinished = record { handed = handed; values = values } in let right : Unfinished = record { handed = handed'; values = values' } in left ≡ right
same_values p q = λ i. record { handed = p i; values = q i }

-- more elements behind all that are below them
pub placed_last : {X : Type 0} (number : X → ℕ) (n : ℕ) (more xs : List X) → AllByRecursion (λ x. number x < n) xs → placed number n more xs ≡ xs ++ more
placed_last {X} number n more xs all = rw (keeps xs all, leaves xs all) (ap (λ rest. xs ++ rest) (append-nil more))
  where
    keeps : (ys : List X) → AllByRecursion (λ x. number x < n) ys → filter (λ x. nat_lt (number x) n) ys ≡ ys
    keeps [] below = refl
    keeps (y ∷ ys) below = grind (arith, nat_tests, below.0, keeps ys below.1)

    leaves : (ys : List X) → AllByRecursion (λ x. number x < n) ys → filter (λ x. not (nat_lt (number x) n)) ys ≡ []
    leaves [] below = refl
    leaves (y ∷ ys) below = grind (arith, nat_tests, below.0, leaves ys below.1)
