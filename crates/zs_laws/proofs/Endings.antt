-- The last value of a request is given back once.
use Rattle.std.proofs.Common.{◌≡◌, ◌<◌, ◌≤◌, ◌+◌, ℕ, List, [], ◌∷◌, ◌++◌, Bool, true, false, Option, Some, None, refl, sym, ◌∙◌, ap, subst, arith, length}
use Rattle.std.specs.Prelude.{◌==◌, ◌&&◌, ◌||◌, not, nat_lt, if◌then◌else◌}
use Rattle.std.specs.List.{list_any, AllByRecursion}
use Rattle.std.proofs.lemmas.Bool.Decides.{nat_tests}
use Rattle.std.proofs.lemmas.Bool.{eqb-true}
use Rattle.std.proofs.lemmas.List.Folds.{list_any-append}
use Rattle.zs_tables.specs.declared.queryable.QueryableRow.{QueryableRow}
use Rattle.zs_query.specs.Types.{QueryValue, RequestRow}
use Rattle.zs_query.specs.Ascending.{Ascend}
use Rattle.zs_query.specs.Unfinished.{value_at, values_from, has_other, without_value}
use Rattle.zs_query.specs.RequestTable.{Handing, with_handed, with_share, with_finished}
use Rattle.zs_query.proofs.Ascending.{all_weaker, all_append, all_filter, ascend_append, ascend_filter}
use Rattle.zs_events.specs.declared.event.Event.{Event}
use Rattle.zs_events.specs.Kinds.{ToGets, NoGet, Asks, AsksBy, Answers, EndsSide, Reaches, EndsQuerier, Cancels, EndsAll, ToValues, NoValue, Requested, AnswersBy, AnswersError, SharesValue, GivesBack, row_of}
use Rattle.zs_model.specs.declared.settings.Settings.{Settings}
use Rattle.zs_world.specs.declared.change.Change.{Change}
use Rattle.zs_world.specs.World.{World}
use Rattle.zs_model.specs.Entry.{Entry}
use Rattle.zs_model.specs.Past.{past_of}
use Rattle.zs_model.specs.Values.{met_by_get, met_by_request, get_request, network_request, handing_of}
use Rattle.zs_world.specs.Changes.{with_change}
use Rattle.zs_model.specs.Finals.{is_last_of, ends_request, times_ended, is_asked_still, is_over}
use Rattle.zs_model.specs.Live.{to_gets_of}
use Rattle.zs_world.specs.Decisions.{to_gets_at}
use Rattle.zs_standing.specs.Stands.{world_after}
use Rattle.zs_standing.proofs.Saying.{IsMade}
use Rattle.zs_model.proofs.Values.{handing_next}
use Rattle.zs_standing.proofs.Steps.{along}
use Rattle.zs_standing.proofs.Live.{same_gets}
use Rattle.zs_standing.proofs.Stands.{AreStanding, standing_more, standing}

-- whether a request is over, by the table
abbrev over : ℕ → Handing → Bool
over request h = nat_lt request h.handed && not (is_asked_still request h.values)

abbrev times : Bool → ℕ
times b = if b then 1 else 0

-- the values in order, each of a request that was handed out
record InOrder (h : Handing) : Type 0 where
  ascend : Ascend (λ (v : QueryValue). v.value) h.values
  below : AllByRecursion (λ (v : QueryValue). v.value < h.next) h.values
  handed : AllByRecursion (λ (v : QueryValue). v.request < h.handed) h.values

-- the values of a request
record AreOf (request low high : ℕ) (v : QueryValue) : Type 0 where
  above : low ≤ v.value
  under : v.value < high
  same : v.request ≡ request

values_of : (request low high first : ℕ) (row : RequestRow) (met : List ℕ) → low ≤ first → first + length met ≤ high → AllByRecursion (AreOf request low high) (values_from first request row met)
values_of request low high first row [] above below = tt
values_of request low high first row (q ∷ met) above below =
    (record { above = above; under = omega arith; same = refl }, values_of request low high (first + 1) row met (omega arith) (omega arith))

values_ascend : (request first : ℕ) (row : RequestRow) (met : List ℕ) → Ascend (λ (v : QueryValue). v.value) (values_from first request row met)
values_ascend request first row [] = tt
values_ascend request first row (q ∷ met) = (
  all_weaker (AreOf request (first + 1) (first + 1 + length met)) (λ (v : QueryValue). first < v.value) (λ v is. omega (arith, is.above)) (values_from (first + 1) request row met) (values_of request (first + 1) (first + 1 + length met) (first + 1) row met (omega arith) (omega arith)),
  values_ascend request (first + 1) row met,
)

-- another value of a request is one of those that are left
other_left : (request number : ℕ) (values : List QueryValue)
    → list_any (λ (o : QueryValue). o.request == request) (without_value number values) ≡ list_any (λ (o : QueryValue). (o.request == request) && not (o.value == number)) values
other_left request number [] = refl
other_left request number (v ∷ values) = grind (arith, nat_tests, other_left request number values)

or_true : (b : Bool) → (b || true) ≡ true
or_true true = refl
or_true false = refl

or_false : (b : Bool) → (b || false) ≡ b
or_false true = refl
or_false false = refl

and_true : (b : Bool) → (b && true) ≡ b
and_true true = refl
and_true false = refl

-- a request's values are of that request
still_new : (first request r : ℕ) (row : RequestRow) (q : ℕ) (met : List ℕ) → is_asked_still r (values_from first request row (q ∷ met)) ≡ (request == r)
still_new first request r row q [] = grind (arith, nat_tests)
still_new first request r row q (p ∷ met) = grind (arith, nat_tests, still_new (first + 1) request r row p met)

same_number : (n : ℕ) → (n == n) ≡ true
same_number n = grind (arith, nat_tests)

-- the request of a value that is found is asked still, and was handed out
found_still : (n r : ℕ) (v : QueryValue) (values : List QueryValue) → value_at n values ≡ Some v → (v.request == r) ≡ true → is_asked_still r values ≡ true
found_still n r v [] found is = cc
found_still n r v (o ∷ values) found is = go (o.value == n) refl (λ rest. found_still n r v values rest is)
  where
    go : (b : Bool) → (o.value == n) ≡ b → (value_at n values ≡ Some v → is_asked_still r values ≡ true) → ((o.request == r) || is_asked_still r values) ≡ true
    go true here rest =
        let same : Some o ≡ Some v = sym (ap (λ c. if c then Some o else value_at n values) here) ∙ found in
        let eq : o ≡ v = cc in
        ap (λ (b : Bool). b || is_asked_still r values) (ap (λ (w : QueryValue). w.request == r) eq ∙ is)
    go false here rest =
        let yes : is_asked_still r values ≡ true = rest (sym (ap (λ c. if c then Some o else value_at n values) here) ∙ found) in
        ap (λ (b : Bool). (o.request == r) || b) yes ∙ or_true (o.request == r)

found_value : (n : ℕ) (v : QueryValue) (values : List QueryValue) → value_at n values ≡ Some v → v.value ≡ n
found_value n v [] found = cc
found_value n v (o ∷ values) found = go (o.value == n) refl (found_value n v values)
  where
    go : (b : Bool) → (o.value == n) ≡ b → (value_at n values ≡ Some v → v.value ≡ n) → v.value ≡ n
    go true here rest =
        let same : Some o ≡ Some v = sym (ap (λ c. if c then Some o else value_at n values) here) ∙ found in
        let eq : o ≡ v = cc in
        ap (λ (w : QueryValue). w.value) (sym eq) ∙ eqb-true o.value n here
    go false here rest = rest (sym (ap (λ c. if c then Some o else value_at n values) here) ∙ found)

-- where nobody has the number, nothing is left out
none_left_out : (n : ℕ) (values : List QueryValue) → value_at n values ≡ None → without_value n values ≡ values
none_left_out n [] none = refl
none_left_out n (o ∷ values) none = go (o.value == n) refl (none_left_out n values)
  where
    go : (b : Bool) → (o.value == n) ≡ b → (value_at n values ≡ None → without_value n values ≡ values) → without_value n (o ∷ values) ≡ o ∷ values
    go true here rest = let no : Some o ≡ None = sym (ap (λ c. if c then Some o else value_at n values) here) ∙ none in cc
    go false here rest =
        let left : without_value n values ≡ values = rest (sym (ap (λ c. if c then Some o else value_at n values) here) ∙ none) in
        rw here (ap (λ vs. o ∷ vs) left)

-- those of another request stay
above_stay : (n r : ℕ) (values : List QueryValue) → AllByRecursion (λ (v : QueryValue). n < v.value) values
    → list_any (λ (o : QueryValue). (o.request == r) && not (o.value == n)) values ≡ is_asked_still r values
above_stay n r [] all = refl
above_stay n r (o ∷ values) all = grind (arith, nat_tests, all.0, above_stay n r values all.1)

other_stay : (n r : ℕ) (v : QueryValue) (values : List QueryValue) → Ascend (λ (o : QueryValue). o.value) values → value_at n values ≡ Some v → (v.request == r) ≡ false
    → list_any (λ (o : QueryValue). (o.request == r) && not (o.value == n)) values ≡ is_asked_still r values
other_stay n r v [] up found differs = refl
other_stay n r v (o ∷ values) up found differs = go (o.value == n) refl (other_stay n r v values up.1)
  where
    go : (b : Bool) → (o.value == n) ≡ b
        → (value_at n values ≡ Some v → (v.request == r) ≡ false → list_any (λ (o : QueryValue). (o.request == r) && not (o.value == n)) values ≡ is_asked_still r values)
        → list_any (λ (o : QueryValue). (o.request == r) && not (o.value == n)) (o ∷ values) ≡ is_asked_still r (o ∷ values)
    go true here rest =
        let same : Some o ≡ Some v = sym (ap (λ c. if c then Some o else value_at n values) here) ∙ found in
        let eq : o ≡ v = cc in
        let out : (o.request == r) ≡ false = ap (λ (w : QueryValue). w.request == r) eq ∙ differs in
        let is : o.value ≡ n = eqb-true o.value n here in
        let behind : list_any (λ (o : QueryValue). (o.request == r) && not (o.value == n)) values ≡ is_asked_still r values =
        above_stay n r values (subst (λ (m : ℕ). AllByRecursion (λ (w : QueryValue). m < w.value) values) is up.0) in
        (λ i. (out i && not (o.value == n)) || behind i) ∙ ap (λ (b : Bool). b || is_asked_still r values) (sym out)
    go false here rest =
        let behind = rest (sym (ap (λ c. if c then Some o else value_at n values) here) ∙ found) differs in
        (λ i. ((o.request == r) && not (here i)) || behind i) ∙ ap (λ (b : Bool). b || is_asked_still r values) (and_true (o.request == r))

-- what a table is behind one event more, with how often a request ended in it
record IsNext (r : ℕ) (ends : Bool) (h new : Handing) : Type 0 where
  order : InOrder new
  ended : (if ends then times (over r h) + 1 else times (over r h)) ≡ times (over r new)

stays : (r : ℕ) (h : Handing) → InOrder h → IsNext r false h h
stays r h order = record { order = order; ended = refl }

handed_next : (r : ℕ) (row : RequestRow) (met : List ℕ) (h : Handing) → InOrder h → IsNext r false h (with_handed row met h)
handed_next r row [] h order = stays r h order
handed_next r row (q ∷ met) h order = record {
  order = record {
    ascend = ascend_append (λ (v : QueryValue). v.value) h.next h.values new order.ascend (values_ascend h.handed h.next row (q ∷ met)) order.below
        (all_weaker (AreOf h.handed h.next (h.next + length (q ∷ met))) (λ (v : QueryValue). h.next ≤ v.value) (λ v is. is.above) new mine);
    below = all_append (λ (v : QueryValue). v.value < h.next + length (q ∷ met)) h.values new
        (all_weaker (λ (v : QueryValue). v.value < h.next) (λ (v : QueryValue). v.value < h.next + length (q ∷ met)) (λ v less. omega (arith, less)) h.values order.below)
        (all_weaker (AreOf h.handed h.next (h.next + length (q ∷ met))) (λ (v : QueryValue). v.value < h.next + length (q ∷ met)) (λ v is. is.under) new mine);
    handed = all_append (λ (v : QueryValue). v.request < h.handed + 1) h.values new
        (all_weaker (λ (v : QueryValue). v.request < h.handed) (λ (v : QueryValue). v.request < h.handed + 1) (λ v less. omega (arith, less)) h.values order.handed)
        (all_weaker (AreOf h.handed h.next (h.next + length (q ∷ met))) (λ (v : QueryValue). v.request < h.handed + 1) (λ v is. omega (arith, is.same)) new mine);
  };
  ended = ap times (sym (counts (is_asked_still r h.values) (is_asked_still r (h.values ++ new)) still));
}
  where
    new : List QueryValue
    new = values_from h.next h.handed row (q ∷ met)

    mine : AllByRecursion (AreOf h.handed h.next (h.next + length (q ∷ met))) new
    mine = values_of h.handed h.next (h.next + length (q ∷ met)) h.next row (q ∷ met) (omega arith) (omega arith)

    still : is_asked_still r (h.values ++ new) ≡ (is_asked_still r h.values || (h.handed == r))
    still = list_any-append (λ (v : QueryValue). v.request == r) h.values new ∙ ap (λ (b : Bool). is_asked_still r h.values || b) (still_new h.next h.handed r row q met)

    counts : (before after : Bool) → after ≡ (before || (h.handed == r)) → (nat_lt r (h.handed + 1) && not after) ≡ (nat_lt r h.handed && not before)
    counts before after is = rw is (grind (arith, nat_tests))

shared_next : (r n : ℕ) (h : Handing) (o : Option QueryValue) → value_at n h.values ≡ o → InOrder h → IsNext r false h (with_share o h)
shared_next r n h None found order = stays r h order
shared_next r n h (Some v) found order = record {
  order = record {
    ascend = ascend_append (λ (w : QueryValue). w.value) h.next h.values (more ∷ []) order.ascend (tt, tt) order.below (omega arith, tt);
    below = all_append (λ (w : QueryValue). w.value < h.next + 1) h.values (more ∷ [])
        (all_weaker (λ (w : QueryValue). w.value < h.next) (λ (w : QueryValue). w.value < h.next + 1) (λ w less. omega (arith, less)) h.values order.below) (omega arith, tt);
    handed = all_append (λ (w : QueryValue). w.request < h.handed) h.values (more ∷ []) order.handed (found_handed n v h.values order.handed found, tt);
  };
  ended = ap (λ (b : Bool). times (nat_lt r h.handed && not b)) (sym still);
}
  where
    more : QueryValue
    more = record v { value = h.next }

    found_handed : (n : ℕ) (v : QueryValue) (values : List QueryValue) → AllByRecursion (λ (w : QueryValue). w.request < h.handed) values → value_at n values ≡ Some v → v.request < h.handed
    found_handed n v [] all found = cc
    found_handed n v (o ∷ values) all found = go (o.value == n) refl (found_handed n v values all.1)
      where
        go : (b : Bool) → (o.value == n) ≡ b → (value_at n values ≡ Some v → v.request < h.handed) → v.request < h.handed
        go true here rest =
            let same : Some o ≡ Some v = sym (ap (λ c. if c then Some o else value_at n values) here) ∙ found in
            let eq : o ≡ v = cc in
            subst (λ (w : QueryValue). w.request < h.handed) eq all.0
        go false here rest = rest (sym (ap (λ c. if c then Some o else value_at n values) here) ∙ found)

    one : (b : Bool) → (v.request == r) ≡ b → (is_asked_still r h.values || (b || false)) ≡ is_asked_still r h.values
    one true is = rw (found_still n r v h.values found is) refl
    one false is = or_false (is_asked_still r h.values)

    still : is_asked_still r (h.values ++ more ∷ []) ≡ is_asked_still r h.values
    still = list_any-append (λ (w : QueryValue). w.request == r) h.values (more ∷ []) ∙ one (v.request == r) refl

finished_next : (r n : ℕ) (h : Handing) (o : Option QueryValue) → value_at n h.values ≡ o → InOrder h → IsNext r (is_last_of r h.values o) h (with_finished n h)
finished_next r n h o found order = record {
  order = record {
    ascend = ascend_filter (λ (v : QueryValue). v.value) (λ v. not (v.value == n)) h.values order.ascend;
    below = all_filter (λ (v : QueryValue). v.value < h.next) (λ v. not (v.value == n)) h.values order.below;
    handed = all_filter (λ (v : QueryValue). v.request < h.handed) (λ v. not (v.value == n)) h.values order.handed;
  };
  ended = go o found;
}
  where
    handed_of : (v : QueryValue) (values : List QueryValue) → AllByRecursion (λ (w : QueryValue). w.request < h.handed) values → value_at n values ≡ Some v → v.request < h.handed
    handed_of v [] all found = cc
    handed_of v (o ∷ values) all found = at (o.value == n) refl (handed_of v values all.1)
      where
        at : (b : Bool) → (o.value == n) ≡ b → (value_at n values ≡ Some v → v.request < h.handed) → v.request < h.handed
        at true here rest =
            let same : Some o ≡ Some v = sym (ap (λ c. if c then Some o else value_at n values) here) ∙ found in
            let eq : o ≡ v = cc in
            subst (λ (w : QueryValue). w.request < h.handed) eq all.0
        at false here rest = rest (sym (ap (λ c. if c then Some o else value_at n values) here) ∙ found)

    last : (lt other : Bool) → lt ≡ true → (if true && not other then times (lt && not true) + 1 else times (lt && not true)) ≡ times (lt && not other)
    last true true is = refl
    last true false is = refl
    last false other is = cc

    mine : (v : QueryValue) → value_at n h.values ≡ Some v → (v.request == r) ≡ true
        → (if true && not (has_other v h.values) then times (over r h) + 1 else times (over r h)) ≡ times (over r (with_finished n h))
    mine v found is =
        let its : v.request ≡ r = eqb-true v.request r is in
        let value : v.value ≡ n = found_value n v h.values found in
        let before : is_asked_still r h.values ≡ true = found_still n r v h.values found is in
        let left : is_asked_still r (without_value n h.values) ≡ has_other v h.values =
        other_left r n h.values ∙ (λ i. list_any (λ (o : QueryValue). (o.request == sym its i) && not (o.value == sym value i)) h.values) in
        let lt : nat_lt r h.handed ≡ true = let less : v.request < h.handed = handed_of v h.values order.handed found in grind (arith, nat_tests, less, its) in
        (λ i. if true && not (has_other v h.values) then times (nat_lt r h.handed && not (before i)) + 1 else times (nat_lt r h.handed && not (before i)))
        ∙ last (nat_lt r h.handed) (has_other v h.values) lt
        ∙ ap (λ (b : Bool). times (nat_lt r h.handed && not b)) (sym left)

    go : (o : Option QueryValue) → value_at n h.values ≡ o
        → (if is_last_of r h.values o then times (over r h) + 1 else times (over r h)) ≡ times (over r (with_finished n h))
    go None found = ap (λ (vs : List QueryValue). times (nat_lt r h.handed && not (is_asked_still r vs))) (sym (none_left_out n h.values found))
    go (Some v) found = by (v.request == r) refl
      where
        by : (b : Bool) → (v.request == r) ≡ b
            → (if b && not (has_other v h.values) then times (over r h) + 1 else times (over r h)) ≡ times (over r (with_finished n h))
        by true is = mine v found is
        by false is =
            ap (λ (b : Bool). times (nat_lt r h.handed && not b))
            (sym (other_left r n h.values ∙ other_stay n r v h.values order.ascend found is))

next_is : (r : ℕ) (rows : List QueryableRow) (to : ToGets) (does : ToValues) (number : Option ℕ) (text : Option (List ℕ)) (h : Handing) → InOrder h
    → IsNext r (ends_request r h.values to does) h (handing_next rows to does number text h)
next_is r rows (Asks q) does (Some number) (Some text) h order = handed_next r (get_request number text q) (met_by_get rows q text) h order
next_is r rows (Asks q) does None text h order = stays r h order
next_is r rows (Asks q) does (Some number) None h order = stays r h order
next_is r rows NoGet NoValue number text h order = stays r h order
next_is r rows NoGet (Requested request) number (Some text) h order = handed_next r (network_request text request) (met_by_request rows request text) h order
next_is r rows NoGet (Requested request) number None h order = stays r h order
next_is r rows NoGet (AnswersBy value body quality) number text h order = stays r h order
next_is r rows NoGet (AnswersError value error) number text h order = stays r h order
next_is r rows NoGet (SharesValue value) number text h order = shared_next r value h (value_at value h.values) refl order
next_is r rows NoGet (GivesBack value) number text h order = finished_next r value h (value_at value h.values) refl order
next_is r rows (AsksBy id q) does number text h order = stays r h order
next_is r rows (Answers response) does number text h order = stays r h order
next_is r rows (EndsSide n) does number text h order = stays r h order
next_is r rows (Reaches moment) does number text h order = stays r h order
next_is r rows (EndsQuerier id) does number text h order = stays r h order
next_is r rows (Cancels token) does number text h order = stays r h order
next_is r rows EndsAll does number text h order = stays r h order

-- so behind each history
record AreEnded (r : ℕ) (w : World) (past : List Entry) : Type 0 where
  same : w.handing ≡ handing_of past
  order : InOrder w.handing
  ended : times_ended r past ≡ times (over r w.handing)

ended_more : (r : ℕ) (w : World) (past : List Entry) (x : Entry) (c : Change) → IsMade w x c → (with_change c w).handing ≡ handing_of (x ∷ past) → to_gets_at w x.event ≡ to_gets_of past x.event → AreEnded r w past → AreEnded r (with_change c w) (x ∷ past)
ended_more r w past x c m same to is =
    let next : IsNext r (ends_request r w.handing.values (to_gets_at w x.event) (row_of x.event).to_values) w.handing (with_change c w).handing =
    subst (IsNext r (ends_request r w.handing.values (to_gets_at w x.event) (row_of x.event).to_values) w.handing) (sym m.gets.handing)
    (next_is r w.entities.queryables (to_gets_at w x.event) (row_of x.event).to_values x.number x.text w.handing is.order) in
    record {
      same = same;
      order = next.order;
      ended =
          (λ i. if ends_request r (sym is.same i).values (sym to i) (row_of x.event).to_values then is.ended i + 1 else is.ended i)
          ∙ next.ended;
    }

pub ends_once : (s : Settings) (h : List Event) (r : ℕ) → times_ended r (past_of s h) ≡ (if is_over r (past_of s h) then 1 else 0)
ends_once s h r =
    let P = λ (w : World) (past : List Entry). AreStanding s w past × AreEnded r w past in
    let both : P (world_after s h) (past_of s h) =
    along s P (standing s [], record { same = refl; order = record { ascend = tt; below = tt; handed = tt }; ended = sym (ap times (none_yet r)) })
    (λ w past x c m k p. let st = standing_more s w past x c m k p.0 in (st, ended_more r w past x c m st.handing (same_gets w past x.event p.0.live) p.1)) h in
    both.1.ended ∙ ap (λ (h : Handing). times (over r h)) both.1.same
  where
    none_yet : (r : ℕ) → (nat_lt r 0 && true) ≡ false
    none_yet r = grind (arith, nat_tests)
