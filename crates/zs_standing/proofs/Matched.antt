-- The tables of matching are what the events tell.
use Rattle.std.proofs.Common.{◌≡◌, ◌≢◌, ℕ, ◌<◌, Bool, true, false, List, [], ◌∷◌, ◌++◌, Option, Some, None, IsSome, refl, sym, ap, ◌∙◌, arith}
use Rattle.std.specs.Prelude.{◌==◌, ◌&&◌, ◌||◌, not, nat_lt, map, filter}
use Rattle.std.specs.List.{AllByRecursion, list_any}
use Rattle.std.proofs.lemmas.Bool.Decides.{nat_tests}
use Rattle.zs_keys.specs.Key.{undeclared}
use Rattle.zs_subscriptions.specs.Ascending.{Ascend, placed_by}
use Rattle.zs_tables.specs.declared.listener.ListenerRow.{ListenerRow}
use Rattle.zs_tables.specs.RemoteEntities.{RemoteEntities}
use Rattle.zs_tables.specs.declared.remote_row.RemoteSubscriber.{RemoteSubscriber}
use Rattle.zs_tables.specs.declared.remote_row.RemoteQueryable.{RemoteQueryable}
use Rattle.zs_subscriptions.specs.declared.subscriber.SubRow.{SubRow}
use Rattle.zs_tables.specs.declared.queryable.QueryableRow.{QueryableRow}
use Rattle.zs_tables.specs.Matching.{Candidate, suits, own_sub, own_queryable, remote_subscriber, remote_queryable, candidates, status}
use Rattle.zs_subscriptions.proofs.Ascending.{all_weaker, ascend_placed, ascend_filter}
use Rattle.zs_subscriptions.proofs.ByKey.{by_test}
use Rattle.zs_events.specs.declared.turn.Kind.{Kind}
use Rattle.zs_events.specs.declared.turn.Kind.TheVariants.{Subscriber, LivelinessSubscriber, Publisher, Queryable, Querier, Token, Listener, Get, LivelinessGet}
use Rattle.zs_events.specs.Kinds.{ToMatching, NoMatch, TellsSub, EndsSub, TellsQueryable, EndsQueryable, row_of}
use Rattle.zs_world.specs.declared.change.Change.{Change}
use Rattle.zs_world.specs.World.{World, present_at}
use Rattle.zs_model.specs.Entry.{Entry}
use Rattle.zs_model.specs.Live.{appended, live_subs, live_queryables, live_pubs, live_queriers, live_listeners, is_living}
use Rattle.zs_model.specs.Listeners.{listening, listener_row, ends_listener, is_listener}
use Rattle.zs_model.specs.Matching.{remote_subscriber_row, renews_sub, remote_queryable_row, renews_queryable, remote_subscribers, remote_queryables, is_matched, as_number, status_of, ends_unknown}
use Rattle.zs_world.specs.Decisions.{status_at, is_there}
use Rattle.zs_world.specs.Changes.{with_change}
use Rattle.zs_standing.proofs.Live.{AreLive, there_is}

-- what the tables of matching are behind a past
pub record AreMatched (w : World) (past : List Entry) : Type 0 where
  pub listeners : w.matching.listeners ≡ live_listeners past
  pub subs : (test : RemoteSubscriber → Bool) → list_any test w.matching.remote_entities.subs ≡ list_any test (remote_subscribers past)
  pub queryables : (test : RemoteQueryable → Bool) → list_any test w.matching.remote_entities.queryables ≡ list_any test (remote_queryables past)
  pub subs_ascend : Ascend (λ (row : RemoteSubscriber). row.number) w.matching.remote_entities.subs
  pub queryables_ascend : Ascend (λ (row : RemoteQueryable). row.number) w.matching.remote_entities.queryables

-- what an event makes of the told ones
abbrev pub remote_subscribers_behind : ToMatching → Option (List ℕ) → List RemoteSubscriber → List RemoteSubscriber
remote_subscribers_behind (TellsSub id) (Some text) rows = placed_by (λ (row : RemoteSubscriber). row.number) (record { number = id; key = undeclared text }) rows
remote_subscribers_behind (EndsSub id) text rows = filter (λ (row : RemoteSubscriber). not (row.number == id)) rows
remote_subscribers_behind to text rows = rows

abbrev pub remote_queryables_behind : ToMatching → Option (List ℕ) → List RemoteQueryable → List RemoteQueryable
remote_queryables_behind (TellsQueryable id complete) (Some text) rows =
    placed_by (λ (row : RemoteQueryable). row.number) (record { number = id; complete = complete; key = undeclared text }) rows
remote_queryables_behind (EndsQueryable id) text rows = filter (λ (row : RemoteQueryable). not (row.number == id)) rows
remote_queryables_behind to text rows = rows

-- an event that tells has a text
abbrev pub HasText : ToMatching → Option (List ℕ) → Type 0
HasText (TellsSub id) text = IsSome text
HasText (TellsQueryable id complete) text = IsSome text
HasText to text = Unit {0}

-- an entry says of matching what its change does
pub record SaysMatching (w : World) (x : Entry) (c : Change) : Type 0 where
  pub listeners :
      (with_change c w).matching.listeners
      ≡ appended (filter (λ row. not (ends_listener x.event row)) w.matching.listeners) (listener_row w.entities.pubs w.entities.queriers x.event x.number)
  pub subs : (with_change c w).matching.remote_entities.subs ≡ remote_subscribers_behind (row_of x.event).to_matching x.text w.matching.remote_entities.subs
  pub queryables : (with_change c w).matching.remote_entities.queryables ≡ remote_queryables_behind (row_of x.event).to_matching x.text w.matching.remote_entities.queryables
  pub text : HasText (row_of x.event).to_matching x.text

-- one that is placed takes the place of that of its number
any_placed : {R : Type 0} (number : R → ℕ) (test : R → Bool) (new : R) (rows : List R) → Ascend number rows
    → list_any test (placed_by number new rows) ≡ (list_any (λ r. not (number r == number new) && test r) rows || test new)
any_placed number test new [] up = grind (arith, nat_tests)
any_placed number test new (row ∷ rows) up =
    by_test (number row == number new)
    (λ k.
    let same : number row ≡ number new = grind (arith, nat_tests, k) in
    let rest = any_others number test (number new) rows (all_weaker (λ later. number row < number later) (λ later. number later ≢ number new) (λ later more eq. omega (arith, more, eq, same)) rows up.0) in
    rw (k, rest) (or_turned (test new) (list_any test rows)))
    (λ k. by_test (nat_lt (number new) (number row))
    (λ m.
    let less : number new < number row = grind (arith, nat_tests, m) in
    let rest = any_others number test (number new) rows (all_weaker (λ later. number row < number later) (λ later. number later ≢ number new) (λ later more eq. omega (arith, more, eq, less)) rows up.0) in
    rw (k, m, rest) (or_turned (test new) (test row || list_any test rows)))
    (λ m. rw (k, m, any_placed number test new rows up.1) (or_inside (test row) (list_any (λ r. not (number r == number new) && test r) rows) (test new))))
  where
    or_turned : (a b : Bool) → (a || b) ≡ (b || a)
    or_turned true true = refl
    or_turned true false = refl
    or_turned false true = refl
    or_turned false false = refl

    or_inside : (a b c : Bool) → (a || (b || c)) ≡ ((a || b) || c)
    or_inside true b c = refl
    or_inside false b c = refl

    any_others : {S : Type 0} (n : S → ℕ) (p : S → Bool) (m : ℕ) (xs : List S) → AllByRecursion (λ x. n x ≢ m) xs → list_any (λ x. not (n x == m) && p x) xs ≡ list_any p xs
    any_others n p m [] all = refl
    any_others n p m (x ∷ xs) all = grind (arith, nat_tests, all.0, any_others n p m xs all.1)

-- a test of those that a filter keeps
any_kept : {R : Type 0} (keep test : R → Bool) (rows : List R) → list_any test (filter keep rows) ≡ list_any (λ r. keep r && test r) rows
any_kept keep test [] = refl
any_kept keep test (row ∷ rows) =
    let ih = any_kept keep test rows in
    by_test (keep row) (λ k. rw k (ap (λ (b : Bool). test row || b) ih)) (λ k. rw k ih)

any_more : {R : Type 0} (test : R → Bool) (rows : List R) (new : R) → list_any test (rows ++ new ∷ []) ≡ (list_any test rows || test new)
any_more test [] new = grind (arith, nat_tests)
any_more test (row ∷ rows) new =
    let ih = any_more test rows new in
    by_test (test row) (λ k. rw k refl) (λ k. rw k ih)

any_agree : {R : Type 0} (p q : R → Bool) → ((r : R) → p r ≡ q r) → (rows : List R) → list_any p rows ≡ list_any q rows
any_agree p q agree [] = refl
any_agree p q agree (row ∷ rows) = rw (agree row, any_agree p q agree rows) refl

-- whoever is asked of candidates
any_map : {R : Type 0} (f : R → Candidate) (p : Candidate → Bool) (rows : List R) → list_any p (map f rows) ≡ list_any (λ r. p (f r)) rows
any_map f p [] = refl
any_map f p (row ∷ rows) = rw (any_map f p rows) refl

any_append : {R : Type 0} (p : R → Bool) (xs ys : List R) → list_any p (xs ++ ys) ≡ (list_any p xs || list_any p ys)
any_append p [] ys = refl
any_append p (x ∷ xs) ys = by_test (p x) (λ k. rw k refl) (λ k. rw k (any_append p xs ys))

-- of the four sorts of candidates one matches
any_apart : (subs : List SubRow) (queryables : List QueryableRow) (told : RemoteEntities) (row : ListenerRow)
    → status (candidates subs queryables told) row
    ≡ (((list_any (λ s. suits (own_sub s) row) subs || list_any (λ q. suits (own_queryable q) row) queryables)
    || list_any (λ s. suits (remote_subscriber s) row) told.subs)
    || list_any (λ q. suits (remote_queryable q) row) told.queryables)
any_apart subs queryables told row =
    let p : Candidate → Bool = λ c. suits c row in
    let own = map own_sub subs ++ map own_queryable queryables in
    any_append p (own ++ map remote_subscriber told.subs) (map remote_queryable told.queryables)
    ∙ (λ i. any_append p own (map remote_subscriber told.subs) i || any_map remote_queryable p told.queryables i)
    ∙ (λ i. (any_append p (map own_sub subs) (map own_queryable queryables) i || any_map remote_subscriber p told.subs i) || list_any (λ q. suits (remote_queryable q) row) told.queryables)
    ∙ (λ i. ((any_map own_sub p subs i || any_map own_queryable p queryables i) || list_any (λ s. suits (remote_subscriber s) row) told.subs) || list_any (λ q. suits (remote_queryable q) row) told.queryables)

-- whether anyone matches, by the tables and by the events
pub matched_is : (w : World) (past : List Entry) (row : ListenerRow) → AreLive w past → AreMatched w past → status (present_at w) row ≡ is_matched past row
matched_is w past row l m =
    let subs = l.subs.table in
    let queryables = l.queryables.table in
    let far_subs = m.subs (λ s. suits (remote_subscriber s) row) in
    let far_queryables = m.queryables (λ q. suits (remote_queryable q) row) in
    any_apart w.entities.subs w.entities.queryables w.matching.remote_entities row
    ∙ (λ i. ((list_any (λ s. suits (own_sub s) row) (subs i) || list_any (λ q. suits (own_queryable q) row) (queryables i)) || far_subs i) || far_queryables i)
    ∙ sym (any_apart (live_subs past) (live_queryables past) (record { subs = remote_subscribers past; queryables = remote_queryables past }) row)

pub status_is : (w : World) (past : List Entry) (kind : Kind) (id : ℕ) → AreLive w past → AreMatched w past → status_at w kind id ≡ status_of past kind id
status_is w past kind id l m =
    let rows : listening w.entities.pubs w.entities.queriers 0 kind id ≡ listening (live_pubs past) (live_queriers past) 0 kind id =
    λ i. listening (l.pubs.table i) (l.queriers.table i) 0 kind id in
    ap (λ (ls : List ListenerRow). as_number (list_any (status (present_at w)) ls)) rows
    ∙ ap as_number (any_agree (status (present_at w)) (is_matched past) (λ row. matched_is w past row l m) (listening (live_pubs past) (live_queriers past) 0 kind id))

-- an event keeps the told ones so
subs_step : (to : ToMatching) (text : Option (List ℕ)) (rows plain : List RemoteSubscriber) → HasText to text → Ascend (λ (row : RemoteSubscriber). row.number) rows
    → ((test : RemoteSubscriber → Bool) → list_any test rows ≡ list_any test plain)
    → (test : RemoteSubscriber → Bool) → list_any test (remote_subscribers_behind to text rows) ≡ list_any test (appended (filter (λ row. not (renews_sub to row)) plain) (remote_subscriber_row to text))
subs_step (TellsSub id) None rows plain has up same test = cc
subs_step (TellsSub id) (Some text) rows plain has up same test =
    let new : RemoteSubscriber = record { number = id; key = undeclared text } in
    let keep : RemoteSubscriber → Bool = λ row. not (row.number == id) in
    any_placed (λ (row : RemoteSubscriber). row.number) test new rows up
    ∙ ap (λ (b : Bool). b || test new) (same (λ row. keep row && test row) ∙ sym (any_kept keep test plain))
    ∙ sym (any_more test (filter keep plain) new)
subs_step (EndsSub id) text rows plain has up same test =
    let keep : RemoteSubscriber → Bool = λ row. not (row.number == id) in
    any_kept keep test rows ∙ same (λ row. keep row && test row) ∙ sym (any_kept keep test plain)
subs_step NoMatch text rows plain has up same test = same test ∙ sym (any_kept (λ row. true) test plain)
subs_step (TellsQueryable id complete) text rows plain has up same test = same test ∙ sym (any_kept (λ row. true) test plain)
subs_step (EndsQueryable id) text rows plain has up same test = same test ∙ sym (any_kept (λ row. true) test plain)

queryables_step : (to : ToMatching) (text : Option (List ℕ)) (rows plain : List RemoteQueryable) → HasText to text → Ascend (λ (row : RemoteQueryable). row.number) rows
    → ((test : RemoteQueryable → Bool) → list_any test rows ≡ list_any test plain)
    → (test : RemoteQueryable → Bool) → list_any test (remote_queryables_behind to text rows) ≡ list_any test (appended (filter (λ row. not (renews_queryable to row)) plain) (remote_queryable_row to text))
queryables_step (TellsQueryable id complete) None rows plain has up same test = cc
queryables_step (TellsQueryable id complete) (Some text) rows plain has up same test =
    let new : RemoteQueryable = record { number = id; complete = complete; key = undeclared text } in
    let keep : RemoteQueryable → Bool = λ row. not (row.number == id) in
    any_placed (λ (row : RemoteQueryable). row.number) test new rows up
    ∙ ap (λ (b : Bool). b || test new) (same (λ row. keep row && test row) ∙ sym (any_kept keep test plain))
    ∙ sym (any_more test (filter keep plain) new)
queryables_step (EndsQueryable id) text rows plain has up same test =
    let keep : RemoteQueryable → Bool = λ row. not (row.number == id) in
    any_kept keep test rows ∙ same (λ row. keep row && test row) ∙ sym (any_kept keep test plain)
queryables_step NoMatch text rows plain has up same test = same test ∙ sym (any_kept (λ row. true) test plain)
queryables_step (TellsSub id) text rows plain has up same test = same test ∙ sym (any_kept (λ row. true) test plain)
queryables_step (EndsSub id) text rows plain has up same test = same test ∙ sym (any_kept (λ row. true) test plain)

-- and their order
subs_up : (to : ToMatching) (text : Option (List ℕ)) (rows : List RemoteSubscriber) → Ascend (λ (row : RemoteSubscriber). row.number) rows → Ascend (λ (row : RemoteSubscriber). row.number) (remote_subscribers_behind to text rows)
subs_up (TellsSub id) None rows up = up
subs_up (TellsSub id) (Some text) rows up = ascend_placed (λ (row : RemoteSubscriber). row.number) (record { number = id; key = undeclared text }) rows up
subs_up (EndsSub id) text rows up = ascend_filter (λ (row : RemoteSubscriber). row.number) (λ row. not (row.number == id)) rows up
subs_up NoMatch text rows up = up
subs_up (TellsQueryable id complete) text rows up = up
subs_up (EndsQueryable id) text rows up = up

queryables_up : (to : ToMatching) (text : Option (List ℕ)) (rows : List RemoteQueryable) → Ascend (λ (row : RemoteQueryable). row.number) rows
    → Ascend (λ (row : RemoteQueryable). row.number) (remote_queryables_behind to text rows)
queryables_up (TellsQueryable id complete) None rows up = up
queryables_up (TellsQueryable id complete) (Some text) rows up = ascend_placed (λ (row : RemoteQueryable). row.number) (record { number = id; complete = complete; key = undeclared text }) rows up
queryables_up (EndsQueryable id) text rows up = ascend_filter (λ (row : RemoteQueryable). row.number) (λ row. not (row.number == id)) rows up
queryables_up NoMatch text rows up = up
queryables_up (TellsSub id) text rows up = up
queryables_up (EndsSub id) text rows up = up

-- an accepted event keeps all so
pub matched_more : (w : World) (past : List Entry) (x : Entry) (c : Change) → SaysMatching w x c → AreLive w past → AreMatched w past → AreMatched (with_change c w) (x ∷ past)
matched_more w past x c k l m = record {
  listeners =
      k.listeners
      ∙ (λ i. appended (filter (λ row. not (ends_listener x.event row)) (m.listeners i)) (listener_row (l.pubs.table i) (l.queriers.table i) x.event x.number));
  subs = λ test. ap (list_any test) k.subs ∙ subs_step (row_of x.event).to_matching x.text w.matching.remote_entities.subs (remote_subscribers past) k.text m.subs_ascend m.subs test;
  queryables = λ test. ap (list_any test) k.queryables ∙ queryables_step (row_of x.event).to_matching x.text w.matching.remote_entities.queryables (remote_queryables past) k.text m.queryables_ascend m.queryables test;
  subs_ascend = rw k.subs (subs_up (row_of x.event).to_matching x.text w.matching.remote_entities.subs m.subs_ascend);
  queryables_ascend = rw k.queryables (queryables_up (row_of x.event).to_matching x.text w.matching.remote_entities.queryables m.queryables_ascend);
}

pub matched_none : (w : World) → w.matching.listeners ≡ [] → w.matching.remote_entities ≡ record { subs = []; queryables = [] } → AreMatched w []
matched_none w listeners told = record {
  listeners = listeners;
  subs = λ test. ap (λ (t : RemoteEntities). list_any test t.subs) told;
  queryables = λ test. ap (λ (t : RemoteEntities). list_any test t.queryables) told;
  subs_ascend = rw told tt;
  queryables_ascend = rw told tt;
}

-- so is whether an end means nothing
pub untold_is : (w : World) (past : List Entry) (to : ToMatching) → AreMatched w past → ends_unknown w.matching.remote_entities.subs w.matching.remote_entities.queryables to ≡ ends_unknown (remote_subscribers past) (remote_queryables past) to
untold_is w past (EndsSub id) m = ap not (m.subs (λ row. row.number == id))
untold_is w past (EndsQueryable id) m = ap not (m.queryables (λ row. row.number == id))
untold_is w past NoMatch m = refl
untold_is w past (TellsSub id) m = refl
untold_is w past (TellsQueryable id complete) m = refl

-- what is live is there
pub living_is : (w : World) (past : List Entry) (kind : Kind) (id : ℕ) → AreLive w past → AreMatched w past → is_there kind id w ≡ is_living kind id past
living_is w past Listener id l m = ap (is_listener id) m.listeners
living_is w past Subscriber id l m = there_is w past Subscriber id refl l
living_is w past LivelinessSubscriber id l m = there_is w past LivelinessSubscriber id refl l
living_is w past Publisher id l m = there_is w past Publisher id refl l
living_is w past Queryable id l m = there_is w past Queryable id refl l
living_is w past Querier id l m = there_is w past Querier id refl l
living_is w past Token id l m = there_is w past Token id refl l
living_is w past Get id l m = there_is w past Get id refl l
living_is w past LivelinessGet id l m = there_is w past LivelinessGet id refl l
