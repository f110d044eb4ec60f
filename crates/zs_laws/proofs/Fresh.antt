-- Counters rise with each number that is drawn, so none is drawn again.
use Rattle.std.proofs.Common.{◌≡◌, ◌<◌, ◌≤◌, ℕ, ◌+◌, List, [], ◌∷◌, ◌++◌, Bool, true, false, Option, Some, None, refl, sym, ◌∙◌, ap, subst, arith, length, map}
use Rattle.std.specs.Prelude.{◌==◌, ◌&&◌, ◌||◌, if◌then◌else◌}
use Rattle.std.specs.List.{AllByRecursion, list_any}
use Rattle.std.proofs.lemmas.Bool.{eqb-true}
use Rattle.std.proofs.lemmas.List.{length-append, length-map}
use Rattle.zs_tables.specs.declared.queryable.QueryableRow.{QueryableRow}
use Rattle.zs_subscriptions.proofs.Ascending.{all_weaker, all_map}
use Rattle.zs_query.specs.Types.{QueryValue, RequestRow}
use Rattle.zs_query.specs.Ascending.{Ascend}
use Rattle.zs_query.specs.Unfinished.{value_at, values_from}
use Rattle.zs_query.specs.Drawn.{ValueNews, Drew, GaveBack, Drawn, just_drawn, giving_back, drawn}
use Rattle.zs_query.proofs.Ascending.{all_append}
use Rattle.zs_events.specs.declared.event.Event.{Event}
use Rattle.zs_events.specs.declared.turn.Answer.TheVariants.{Ok as accepted}
use Rattle.zs_events.specs.declared.turn.Refusal.{Refusal}
use Rattle.zs_events.specs.Turn.{answered}
use Rattle.zs_events.specs.Kinds.{Draws, EntityNumber, QueryNumber, CancellationNumber, ToGets, NoGet, Asks, ToValues, Requested, SharesValue, GivesBack, row_of}
use Rattle.zs_model.specs.declared.settings.Settings.{Settings}
use Rattle.zs_model.specs.Entry.{Entry, is_closed}
use Rattle.zs_model.specs.HeldKeys.{named_text}
use Rattle.zs_model.specs.Live.{live_queryables, to_gets_of}
use Rattle.zs_model.specs.Counters.{draws_entity, draws_query, next_entity, next_query, drawn_number}
use Rattle.zs_model.specs.Cancelling.{draws_cancellation_token, next_cancellation_token}
use Rattle.zs_model.specs.Causes.{refusal_of}
use Rattle.zs_model.specs.Past.{past_of, entry_of, with_entry}
use Rattle.zs_model.specs.Values.{get_request, network_request, met_by_get, met_by_request, share_of, drawn_by, news_by_draw, times_handed, handing_by, value_news}
use Rattle.zs_model.specs.Effects.{effects, effects_behind}
use Rattle.zs_laws.specs.Fresh.{is_number, was_drawn, AreFresh, EntityNumbersAreFresh, QueryNumbersAreFresh, CancellationTokensAreFresh, was_value, QueryValuesAreFresh}

-- a counter: the numbers of a sort are its, and it rises by one with each
pub record IsCounter (s : Settings) (sort : Draws → Bool) (next : List Entry → ℕ) : Type 0 where
  rises : (x : Entry) (past : List Entry) → next (x ∷ past) ≡ (if sort (row_of x.event).draws then next past + 1 else next past)
  drawn : (past : List Entry) (draws : Draws) (text : Option (List ℕ)) → sort draws ≡ true → drawn_number s past draws text ≡ Some (next past)

-- one more number
one_below : (n next : ℕ) (draws was : Bool) (number : Option ℕ) → (draws ≡ true → number ≡ Some next) → (was ≡ true → n < next) → ((draws && is_number n number) || was) ≡ true
    → n < (if draws then next + 1 else next)
one_below n next false was number drew before some = before some
one_below n next true was number drew before some = go (next == n) refl (subst (λ (o : Option ℕ). (is_number n o || was) ≡ true) (drew refl) some)
  where
    go : (b : Bool) → (next == n) ≡ b → (b || was) ≡ true → n < next + 1
    go true same some = omega (arith, eqb-true next n same)
    go false other some = omega (arith, before some)

-- the numbers that were drawn are below the counter
drawn_below : (s : Settings) (sort : Draws → Bool) (next : List Entry → ℕ) → IsCounter s sort next → (h : List Event) (n : ℕ)
    → was_drawn sort n (past_of s h) ≡ true → n < next (past_of s h)
drawn_below s sort next c [] n = λ was. cc
drawn_below s sort next c (e ∷ h) n = go (refusal_of s (past_of s h) e) (is_closed (past_of s h)) (drawn_below s sort next c h n)
  where
    past : List Entry
    past = past_of s h

    x : Entry
    x = entry_of s (past_of s h) e

    go : (o : Option Refusal) (b : Bool) → (was_drawn sort n (past_of s h) ≡ true → n < next (past_of s h))
        → was_drawn sort n (with_entry o b (entry_of s (past_of s h) e) (past_of s h)) ≡ true → n < next (with_entry o b (entry_of s (past_of s h) e) (past_of s h))
    go (Some refusal) b before = before
    go None true before = before
    go None false before =
        λ was. subst (λ (m : ℕ). n < m) (sym (c.rises (entry_of s (past_of s h) e) (past_of s h)))
        (one_below n (next (past_of s h)) (sort (row_of e).draws) (was_drawn sort n (past_of s h)) (entry_of s (past_of s h) e).number
        (c.drawn (past_of s h) (row_of e).draws (named_text (past_of s h) e)) before was)

-- an answer has the number of the entry
pub number_answered : (s : Settings) (h : List Event) (e : Event) (n : ℕ) → (effects s h e).answer ≡ accepted (Some n) → (entry_of s (past_of s h) e).number ≡ Some n
number_answered s h e n = go (is_closed (past_of s h)) (refusal_of s (past_of s h) e)
  where
    go : (b : Bool) (o : Option Refusal)
        → (if b then answered o None [] else answered o (entry_of s (past_of s h) e).number (effects_behind s (past_of s h) e)).answer ≡ accepted (Some n)
        → (entry_of s (past_of s h) e).number ≡ Some n
    go true (Some refusal) is = cc
    go true None is = cc
    go false (Some refusal) is = cc
    go false None is = cc

fresh_by : (sort : Draws → Bool) (next : Settings → List Entry → ℕ) → ((s : Settings) → IsCounter s sort (next s)) → AreFresh sort
fresh_by sort next counts s h e n sorted is = go (was_drawn sort n (past_of s h)) refl
  where
    its : Some n ≡ Some (next s (past_of s h))
    its = sym (number_answered s h e n is) ∙ (counts s).drawn (past_of s h) (row_of e).draws (named_text (past_of s h) e) sorted

    same : n ≡ next s (past_of s h)
    same = cc its

    go : (b : Bool) → was_drawn sort n (past_of s h) ≡ b → b ≡ false
    go true was = absurd (omega (arith, drawn_below s sort (next s) (counts s) h n was, same))
    go false was = refl

pub entity_drawn : (s : Settings) (past : List Entry) (draws : Draws) (text : Option (List ℕ)) → draws_entity draws ≡ true → drawn_number s past draws text ≡ Some (next_entity s past)
entity_drawn s past EntityNumber text sorted = refl
entity_drawn s past draws text sorted = cc

pub query_drawn : (s : Settings) (past : List Entry) (draws : Draws) (text : Option (List ℕ)) → draws_query draws ≡ true → drawn_number s past draws text ≡ Some (next_query s past)
query_drawn s past QueryNumber text sorted = refl
query_drawn s past draws text sorted = cc

token_drawn : (s : Settings) (past : List Entry) (draws : Draws) (text : Option (List ℕ)) → draws_cancellation_token draws ≡ true → drawn_number s past draws text ≡ Some (next_cancellation_token past)
token_drawn s past CancellationNumber text sorted = refl
token_drawn s past draws text sorted = cc

pub entity_counter : (s : Settings) → IsCounter s draws_entity (next_entity s)
entity_counter s = record { rises = λ x past. refl; drawn = entity_drawn s }

pub entity_numbers_are_fresh : EntityNumbersAreFresh
entity_numbers_are_fresh = fresh_by draws_entity next_entity entity_counter

pub query_numbers_are_fresh : QueryNumbersAreFresh
query_numbers_are_fresh = fresh_by draws_query next_query (λ s. record { rises = λ x past. refl; drawn = query_drawn s })

pub cancellation_tokens_are_fresh : CancellationTokensAreFresh
cancellation_tokens_are_fresh = fresh_by draws_cancellation_token (λ s past. next_cancellation_token past) (λ s. record { rises = λ x past. refl; drawn = token_drawn s })

-- the numbers of values that are drawn follow one another
record AreNext (next : ℕ) (vs : List QueryValue) : Type 0 where
  from : AllByRecursion (λ (v : QueryValue). next ≤ v.value) vs
  below : AllByRecursion (λ (v : QueryValue). v.value < next + length vs) vs
  ascend : Ascend (λ (v : QueryValue). v.value) vs

from_next : (first request : ℕ) (row : RequestRow) (met : List ℕ) → AreNext first (values_from first request row met)
from_next first request row [] = record { from = tt; below = tt; ascend = tt }
from_next first request row (q ∷ met) =
    let rest = from_next (first + 1) request row met in
    let vs = values_from (first + 1) request row met in
    record {
      from = (omega arith, all_weaker (λ (v : QueryValue). first + 1 ≤ v.value) (λ (v : QueryValue). first ≤ v.value) (λ v le. omega (arith, le)) vs rest.from);
      below = (
        omega arith,
        all_weaker (λ (v : QueryValue). v.value < first + 1 + length vs) (λ (v : QueryValue). v.value < first + length (values_from first request row (q ∷ met))) (λ v lt. omega (arith, lt)) vs rest.below,
      );
      ascend = (all_weaker (λ (v : QueryValue). first + 1 ≤ v.value) (λ (v : QueryValue). first < v.value) (λ v le. omega (arith, le)) vs rest.from, rest.ascend);
    }

none_next : (next : ℕ) → AreNext next []
none_next next = record { from = tt; below = tt; ascend = tt }

share_next : (next : ℕ) (o : Option QueryValue) → AreNext next (share_of next o)
share_next next None = none_next next
share_next next (Some v) = record { from = (omega arith, tt); below = (omega arith, tt); ascend = (tt, tt) }

drawn_next : (rows : List QueryableRow) (handed : ℕ) (news : List ValueNews) (to : ToGets) (does : ToValues) (number : Option ℕ) (text : Option (List ℕ))
    → AreNext (length (drawn news)) (drawn_by rows (handing_by handed news) to does number text)
drawn_next rows handed news (Asks q) does (Some number) (Some text) = from_next (length (drawn news)) handed (get_request number text q) (met_by_get rows q text)
drawn_next rows handed news (Asks q) does (Some number) None = none_next (length (drawn news))
drawn_next rows handed news (Asks q) does None text = none_next (length (drawn news))
drawn_next rows handed news NoGet (Requested request) number (Some text) = from_next (length (drawn news)) handed (network_request text request) (met_by_request rows request text)
drawn_next rows handed news NoGet (Requested request) number None = none_next (length (drawn news))
drawn_next rows handed news NoGet (SharesValue value) number text = share_next (length (drawn news)) (value_at value (handing_by handed news).values)
drawn_next rows handed news NoGet does number text = none_next (length (drawn news))
drawn_next rows handed news to does number text = none_next (length (drawn news))

-- all that were drawn are below how many were drawn
abbrev AreBelow : List ValueNews → Type 0
AreBelow news = AllByRecursion (λ (d : Drawn). d.value.value < length (drawn news)) (drawn news)

drew_below : (news : List ValueNews) (vs : List QueryValue) → AreNext (length (drawn news)) vs → AreBelow news → AreBelow (Drew vs ∷ news)
drew_below news vs next below =
    let many : length (drawn news ++ map just_drawn vs) ≡ length (drawn news) + length vs =
    length-append (drawn news) (map just_drawn vs) ∙ ap (λ (n : ℕ). length (drawn news) + n) (length-map vs just_drawn) in
    subst (λ (n : ℕ). AllByRecursion (λ (d : Drawn). d.value.value < n) (drawn news ++ map just_drawn vs)) (sym many)
    (all_append (λ (d : Drawn). d.value.value < length (drawn news) + length vs) (drawn news) (map just_drawn vs)
    (all_weaker (λ (d : Drawn). d.value.value < length (drawn news)) (λ (d : Drawn). d.value.value < length (drawn news) + length vs) (λ d lt. omega (arith, lt)) (drawn news) below)
    (all_map (λ (v : QueryValue). v.value < length (drawn news) + length vs) (λ (d : Drawn). d.value.value < length (drawn news) + length vs) just_drawn (λ v lt. lt) vs next.below))

gave_below : (news : List ValueNews) (n : ℕ) → AreBelow news → AreBelow (GaveBack n ∷ news)
gave_below news n below =
    subst (λ (m : ℕ). AllByRecursion (λ (d : Drawn). d.value.value < m) (map (giving_back n) (drawn news))) (sym (length-map (drawn news) (giving_back n)))
    (all_map (λ (d : Drawn). d.value.value < length (drawn news)) (λ (d : Drawn). d.value.value < length (drawn news)) (giving_back n) (λ d lt. lt) (drawn news) below)

news_below : (news : List ValueNews) (to : ToGets) (does : ToValues) (vs : List QueryValue) → AreNext (length (drawn news)) vs → AreBelow news → AreBelow (news_by_draw to does vs ∷ news)
news_below news NoGet (GivesBack value) vs next below = gave_below news value below
news_below news NoGet does vs next below = drew_below news vs next below
news_below news to does vs next below = drew_below news vs next below

values_below : (past : List Entry) → AreBelow (value_news past)
values_below [] = tt
values_below (x ∷ past) =
    news_below (value_news past) (to_gets_of past x.event) (row_of x.event).to_values
    (drawn_by (live_queryables past) (handing_by (times_handed past) (value_news past)) (to_gets_of past x.event) (row_of x.event).to_values x.number x.text)
    (drawn_next (live_queryables past) (times_handed past) (value_news past) (to_gets_of past x.event) (row_of x.event).to_values x.number x.text)
    (values_below past)

-- one that is not below the counter was not drawn
not_drawn : (n next : ℕ) (ds : List Drawn) → next ≤ n → AllByRecursion (λ (d : Drawn). d.value.value < next) ds → list_any (λ d. d.value.value == n) ds ≡ false
not_drawn n next [] from below = refl
not_drawn n next (d ∷ ds) from below = go (d.value.value == n) refl (not_drawn n next ds from below.1)
  where
    go : (b : Bool) → (d.value.value == n) ≡ b → list_any (λ (d : Drawn). d.value.value == n) ds ≡ false → (b || list_any (λ (d : Drawn). d.value.value == n) ds) ≡ false
    go true same ih = absurd (omega (arith, eqb-true d.value.value n same, below.0, from))
    go false other ih = ih

pub query_values_are_fresh : QueryValuesAreFresh
query_values_are_fresh s h e =
    let past = past_of s h in
    let next = drawn_next (live_queryables past) (times_handed past) (value_news past) (to_gets_of past e) (row_of e).to_values (entry_of s past e).number (named_text past e) in (
      all_weaker (λ (v : QueryValue). length (drawn (value_news past)) ≤ v.value) (λ (v : QueryValue). was_value v.value past ≡ false)
          (λ v from. not_drawn v.value (length (drawn (value_news past))) (drawn (value_news past)) from (values_below past)) _ next.from,
      next.ascend,
    )
