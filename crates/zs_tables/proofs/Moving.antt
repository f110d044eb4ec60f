-- What someone who comes or goes makes of counts, and who hears of it.
use Rattle.std.proofs.Common.{◌≡◌, ◌≢◌, ℕ, ◌+◌, ◌-◌, ◌<◌, Bool, true, false, List, [], ◌∷◌, ◌++◌, Option, Some, None, refl, sym, ap, ◌∙◌, arith}
use Rattle.std.specs.Prelude.{◌==◌, nat_lt, not, map, filter, option_map, if◌then◌else◌}
use Rattle.std.specs.List.{AllByRecursion, count_by, find}
use Rattle.std.proofs.lemmas.Bool.Decides.{nat_tests}
use Rattle.zs_tables.specs.declared.listener.ListenerRow.{ListenerRow}
use Rattle.zs_tables.specs.declared.recount.Recount.{Recount}
use Rattle.zs_subscriptions.specs.declared.subscriber.SubRow.{SubRow}
use Rattle.zs_tables.specs.declared.queryable.QueryableRow.{QueryableRow}
use Rattle.zs_tables.specs.declared.remote_row.RemoteSubscriber.{RemoteSubscriber}
use Rattle.zs_tables.specs.declared.remote_row.RemoteQueryable.{RemoteQueryable}
use Rattle.zs_subscriptions.specs.Ascending.{Ascend, placed_by}
use Rattle.zs_tables.specs.RemoteEntities.{RemoteEntities}
use Rattle.zs_tables.specs.Matching.{Candidate, Listener, suits, own_sub, own_queryable, remote_subscriber, remote_queryable, candidates, status, count_of, AreCounted, suits_if, is_moved, recount_of, recounts, set_if, with_count, recounted, is_heard}
use Rattle.zs_tables.specs.MatchingLaws.{one_if, Moves, Heard, heard, told_of, differ}
use Rattle.zs_subscriptions.proofs.Ascending.{all_weaker, all_map, all_filter}
use Rattle.zs_subscriptions.proofs.ByKey.{by_test, passed}
use Rattle.zs_tables.proofs.Counting.{count_push, count_append, count_map, count_without, count_placed, any_counted}
use Rattle.zs_tables.proofs.Parents.{set_nobody}

-- the counts of the four sorts of candidates
abbrev own_subs_of : ListenerRow → List SubRow → ℕ
own_subs_of row subs = count_by (λ s. suits (own_sub s) row) subs

abbrev own_queryables_of : ListenerRow → List QueryableRow → ℕ
own_queryables_of row qs = count_by (λ q. suits (own_queryable q) row) qs

abbrev remote_subscribers_of : ListenerRow → List RemoteSubscriber → ℕ
remote_subscribers_of row subs = count_by (λ s. suits (remote_subscriber s) row) subs

abbrev remote_queryables_of : ListenerRow → List RemoteQueryable → ℕ
remote_queryables_of row qs = count_by (λ q. suits (remote_queryable q) row) qs

pub counted_apart : (row : ListenerRow) (subs : List SubRow) (queryables : List QueryableRow) (told : RemoteEntities)
    → count_of (candidates subs queryables told) row
    ≡ own_subs_of row subs + own_queryables_of row queryables + remote_subscribers_of row told.subs + remote_queryables_of row told.queryables
counted_apart row subs queryables told =
    let p : Candidate → Bool = λ c. suits c row in
    count_append p (map own_sub subs ++ map own_queryable queryables ++ map remote_subscriber told.subs) (map remote_queryable told.queryables)
    ∙ (λ i.
    count_append p (map own_sub subs ++ map own_queryable queryables) (map remote_subscriber told.subs) i + count_map p remote_queryable told.queryables i)
    ∙ ap (λ (n : ℕ). n + remote_queryables_of row told.queryables)
    ((λ i. count_append p (map own_sub subs) (map own_queryable queryables) i + count_map p remote_subscriber told.subs i)
    ∙ (λ i. (count_map p own_sub subs i + count_map p own_queryable queryables i) + remote_subscribers_of row told.subs))

-- a candidate that was found
suits_found : {R : Type 0} (f : R → Candidate) (row : ListenerRow) (o : Option R) → suits_if (option_map f o) row ≡ passed (λ r. suits (f r) row) o
suits_found f row None = refl
suits_found f row (Some r) = refl

-- of four numbers one changes
first_moves : (a a' b c d g k whole whole' : ℕ) → whole ≡ a + b + c + d → whole' ≡ a' + b + c + d → a' + g ≡ a + k → whole' + g ≡ whole + k
first_moves a a' b c d g k whole whole' p q h = rw (p, q) (omega (arith, h))

second_moves : (a b b' c d g k whole whole' : ℕ) → whole ≡ a + b + c + d → whole' ≡ a + b' + c + d → b' + g ≡ b + k → whole' + g ≡ whole + k
second_moves a b b' c d g k whole whole' p q h = rw (p, q) (omega (arith, h))

third_moves : (a b c c' d g k whole whole' : ℕ) → whole ≡ a + b + c + d → whole' ≡ a + b + c' + d → c' + g ≡ c + k → whole' + g ≡ whole + k
third_moves a b c c' d g k whole whole' p q h = rw (p, q) (omega (arith, h))

fourth_moves : (a b c d d' g k whole whole' : ℕ) → whole ≡ a + b + c + d → whole' ≡ a + b + c + d' → d' + g ≡ d + k → whole' + g ≡ whole + k
fourth_moves a b c d d' g k whole whole' p q h = rw (p, q) (omega (arith, h))

plus_none : (n : ℕ) → n + one_if false ≡ n
plus_none n = omega arith

pub sub_comes : (subs : List SubRow) (queryables : List QueryableRow) (told : RemoteEntities) (row : SubRow)
    → Moves None (Some (own_sub row)) (candidates subs queryables told) (candidates (subs ++ row ∷ []) queryables told)
sub_comes subs queryables told row = record {
  each = λ l.
      first_moves (own_subs_of l subs) (own_subs_of l (subs ++ row ∷ [])) _ _ _ _ _ _ _ (counted_apart l subs queryables told) (counted_apart l (subs ++ row ∷ []) queryables told)
      (plus_none _ ∙ count_push (λ s. suits (own_sub s) l) subs row);
}

pub sub_goes : (subs : List SubRow) (queryables : List QueryableRow) (told : RemoteEntities) (id : ℕ) → Ascend (λ (row : SubRow). row.id) subs
    → Moves (option_map own_sub (find (λ (row : SubRow). row.id == id) subs)) None (candidates subs queryables told) (candidates (filter (λ (row : SubRow). not (row.id == id)) subs) queryables told)
sub_goes subs queryables told id up = record {
  each = λ l.
      let left = filter (λ (row : SubRow). not (row.id == id)) subs in
      first_moves (own_subs_of l subs) (own_subs_of l left) _ _ _ _ _ _ _ (counted_apart l subs queryables told) (counted_apart l left queryables told)
      (ap (λ (b : Bool). own_subs_of l left + one_if b) (suits_found own_sub l (find (λ (row : SubRow). row.id == id) subs))
      ∙ count_without (λ (row : SubRow). row.id) (λ s. suits (own_sub s) l) id subs up ∙ sym (plus_none _));
}

pub queryable_comes : (subs : List SubRow) (queryables : List QueryableRow) (told : RemoteEntities) (row : QueryableRow)
    → Moves None (Some (own_queryable row)) (candidates subs queryables told) (candidates subs (queryables ++ row ∷ []) told)
queryable_comes subs queryables told row = record {
  each = λ l.
      second_moves _ (own_queryables_of l queryables) (own_queryables_of l (queryables ++ row ∷ [])) _ _ _ _ _ _ (counted_apart l subs queryables told) (counted_apart l subs (queryables ++ row ∷ []) told)
      (plus_none _ ∙ count_push (λ q. suits (own_queryable q) l) queryables row);
}

pub queryable_goes : (subs : List SubRow) (queryables : List QueryableRow) (told : RemoteEntities) (id : ℕ) → Ascend (λ (row : QueryableRow). row.id) queryables
    → Moves (option_map own_queryable (find (λ (row : QueryableRow). row.id == id) queryables)) None (candidates subs queryables told)
    (candidates subs (filter (λ (row : QueryableRow). not (row.id == id)) queryables) told)
queryable_goes subs queryables told id up = record {
  each = λ l.
      let left = filter (λ (row : QueryableRow). not (row.id == id)) queryables in
      second_moves _ (own_queryables_of l queryables) (own_queryables_of l left) _ _ _ _ _ _ (counted_apart l subs queryables told) (counted_apart l subs left told)
      (ap (λ (b : Bool). own_queryables_of l left + one_if b) (suits_found own_queryable l (find (λ (row : QueryableRow). row.id == id) queryables))
      ∙ count_without (λ (row : QueryableRow). row.id) (λ q. suits (own_queryable q) l) id queryables up ∙ sym (plus_none _));
}

pub remote_subscriber_comes : (subs : List SubRow) (queryables : List QueryableRow) (told : RemoteEntities) (row : RemoteSubscriber) → Ascend (λ (s : RemoteSubscriber). s.number) told.subs
    → Moves (option_map remote_subscriber (find (λ (s : RemoteSubscriber). s.number == row.number) told.subs)) (Some (remote_subscriber row)) (candidates subs queryables told)
    (candidates subs queryables (record told { subs = placed_by (λ (s : RemoteSubscriber). s.number) row told.subs }))
remote_subscriber_comes subs queryables told row up = record {
  each = λ l.
      let more = placed_by (λ (s : RemoteSubscriber). s.number) row told.subs in
      third_moves _ _ (remote_subscribers_of l told.subs) (remote_subscribers_of l more) _ _ _ _ _ (counted_apart l subs queryables told) (counted_apart l subs queryables (record told { subs = more }))
      (ap (λ (b : Bool). remote_subscribers_of l more + one_if b) (suits_found remote_subscriber l (find (λ (s : RemoteSubscriber). s.number == row.number) told.subs))
      ∙ count_placed (λ (s : RemoteSubscriber). s.number) (λ s. suits (remote_subscriber s) l) row told.subs up);
}

pub remote_subscriber_goes : (subs : List SubRow) (queryables : List QueryableRow) (told : RemoteEntities) (number : ℕ) → Ascend (λ (s : RemoteSubscriber). s.number) told.subs
    → Moves (option_map remote_subscriber (find (λ (s : RemoteSubscriber). s.number == number) told.subs)) None (candidates subs queryables told)
    (candidates subs queryables (record told { subs = filter (λ (s : RemoteSubscriber). not (s.number == number)) told.subs }))
remote_subscriber_goes subs queryables told number up = record {
  each = λ l.
      let left = filter (λ (s : RemoteSubscriber). not (s.number == number)) told.subs in
      third_moves _ _ (remote_subscribers_of l told.subs) (remote_subscribers_of l left) _ _ _ _ _ (counted_apart l subs queryables told) (counted_apart l subs queryables (record told { subs = left }))
      (ap (λ (b : Bool). remote_subscribers_of l left + one_if b) (suits_found remote_subscriber l (find (λ (s : RemoteSubscriber). s.number == number) told.subs))
      ∙ count_without (λ (s : RemoteSubscriber). s.number) (λ s. suits (remote_subscriber s) l) number told.subs up ∙ sym (plus_none _));
}

pub remote_queryable_comes : (subs : List SubRow) (queryables : List QueryableRow) (told : RemoteEntities) (row : RemoteQueryable) → Ascend (λ (q : RemoteQueryable). q.number) told.queryables
    → Moves (option_map remote_queryable (find (λ (q : RemoteQueryable). q.number == row.number) told.queryables)) (Some (remote_queryable row)) (candidates subs queryables told)
    (candidates subs queryables (record told { queryables = placed_by (λ (q : RemoteQueryable). q.number) row told.queryables }))
remote_queryable_comes subs queryables told row up = record {
  each = λ l.
      let more = placed_by (λ (q : RemoteQueryable). q.number) row told.queryables in
      fourth_moves _ _ _ (remote_queryables_of l told.queryables) (remote_queryables_of l more) _ _ _ _ (counted_apart l subs queryables told) (counted_apart l subs queryables (record told { queryables = more }))
      (ap (λ (b : Bool). remote_queryables_of l more + one_if b) (suits_found remote_queryable l (find (λ (q : RemoteQueryable). q.number == row.number) told.queryables))
      ∙ count_placed (λ (q : RemoteQueryable). q.number) (λ q. suits (remote_queryable q) l) row told.queryables up);
}

pub remote_queryable_goes : (subs : List SubRow) (queryables : List QueryableRow) (told : RemoteEntities) (number : ℕ) → Ascend (λ (q : RemoteQueryable). q.number) told.queryables
    → Moves (option_map remote_queryable (find (λ (q : RemoteQueryable). q.number == number) told.queryables)) None (candidates subs queryables told)
    (candidates subs queryables (record told { queryables = filter (λ (q : RemoteQueryable). not (q.number == number)) told.queryables }))
remote_queryable_goes subs queryables told number up = record {
  each = λ l.
      let left = filter (λ (q : RemoteQueryable). not (q.number == number)) told.queryables in
      fourth_moves _ _ _ (remote_queryables_of l told.queryables) (remote_queryables_of l left) _ _ _ _ (counted_apart l subs queryables told) (counted_apart l subs queryables (record told { queryables = left }))
      (ap (λ (b : Bool). remote_queryables_of l left + one_if b) (suits_found remote_queryable l (find (λ (q : RemoteQueryable). q.number == number) told.queryables))
      ∙ count_without (λ (q : RemoteQueryable). q.number) (λ q. suits (remote_queryable q) l) number told.queryables up ∙ sym (plus_none _));
}

-- a listener for which someone came or went
abbrev moved_on : Option Candidate → Option Candidate → Listener → Listener
moved_on goes comes l = if is_moved goes comes l then record l { count = (recount_of goes comes l).is } else l

skipped : (rs : List Recount) (l : Listener) (ls : List Listener) → AllByRecursion (λ (r : Recount). l.row.id ≢ r.id) rs → recounted rs (l ∷ ls) ≡ l ∷ recounted rs ls
skipped [] l ls all = refl
skipped (r ∷ rs) l ls all =
    let other : (l.row.id == r.id) ≡ false = grind (arith, nat_tests, all.0) in
    rw other (skipped rs l (with_count r ls) all.1)

apart : (goes comes : Option Candidate) (l : Listener) (ls : List Listener) → AllByRecursion (λ (later : Listener). l.row.id < later.row.id) ls
    → AllByRecursion (λ (r : Recount). l.row.id ≢ r.id) (recounts goes comes ls)
apart goes comes l ls up =
    all_map (λ (later : Listener). l.row.id < later.row.id) (λ (r : Recount). l.row.id ≢ r.id) (recount_of goes comes) (λ later more eq. omega (arith, more, eq)) (filter (is_moved goes comes) ls)
    (all_filter (λ (later : Listener). l.row.id < later.row.id) (is_moved goes comes) ls up)

-- setting the counts that change is setting all
recounted_all : (goes comes : Option Candidate) (ls : List Listener) → Ascend (λ (l : Listener). l.row.id) ls → recounted (recounts goes comes ls) ls ≡ map (moved_on goes comes) ls
recounted_all goes comes [] up = refl
recounted_all goes comes (l ∷ ls) up =
    let ih = recounted_all goes comes ls up.1 in
    let later = apart goes comes l ls up.0 in
    by_test (is_moved goes comes l)
    (λ m.
    let r : Recount = recount_of goes comes l in
    let new : Listener = record l { count = r.is } in
    let same : (l.row.id == r.id) ≡ true = grind (arith, nat_tests) in
    let others : with_count r ls ≡ ls = set_nobody r ls (all_weaker (λ (k : Listener). l.row.id < k.row.id) (λ k. k.row.id ≢ l.row.id) (λ k more eq. omega (arith, more, eq)) ls up.0) in
    let here : set_if r l ≡ new = rw same refl in
    let first : recounts goes comes (l ∷ ls) ≡ r ∷ recounts goes comes ls = rw m refl in
    let set_all : with_count r (l ∷ ls) ≡ new ∷ ls = λ i. here i ∷ others i in
    let moved : moved_on goes comes l ≡ new = rw m refl in
    ap (λ (rs : List Recount). recounted rs (l ∷ ls)) first
    ∙ ap (recounted (recounts goes comes ls)) set_all
    ∙ skipped (recounts goes comes ls) new ls later
    ∙ (λ i. sym moved i ∷ ih i))
    (λ m.
    let first : recounts goes comes (l ∷ ls) ≡ recounts goes comes ls = rw m refl in
    let stays : moved_on goes comes l ≡ l = rw m refl in
    ap (λ (rs : List Recount). recounted rs (l ∷ ls)) first
    ∙ skipped (recounts goes comes ls) l ls later
    ∙ (λ i. sym stays i ∷ ih i))

count_moves : (g c : Bool) (n old new : ℕ) → n ≡ old → new + one_if g ≡ old + one_if c → (if g then not c else c) ≡ true → (if c then n + 1 else n - 1) ≡ new
count_moves true true n old new is h m = absurd (cc)
count_moves true false n old new is h m = omega (arith, is, h)
count_moves false true n old new is h m = omega (arith, is, h)
count_moves false false n old new is h m = absurd (cc)

count_stays : (g c : Bool) (old new : ℕ) → new + one_if g ≡ old + one_if c → (if g then not c else c) ≡ false → new ≡ old
count_stays true true old new h m = omega (arith, h)
count_stays true false old new h m = absurd (cc)
count_stays false true old new h m = absurd (cc)
count_stays false false old new h m = omega (arith, h)

-- the count that a listener has then
moves_to : (goes comes : Option Candidate) (old new : List Candidate) (l : Listener) → Moves goes comes old new → l.count ≡ count_of old l.row → is_moved goes comes l ≡ true
    → (recount_of goes comes l).is ≡ count_of new l.row
moves_to goes comes old new l m is h = count_moves (suits_if goes l.row) (suits_if comes l.row) l.count (count_of old l.row) (count_of new l.row) is (m.each l.row) h

stays_at : (goes comes : Option Candidate) (old new : List Candidate) (l : Listener) → Moves goes comes old new → is_moved goes comes l ≡ false → count_of new l.row ≡ count_of old l.row
stays_at goes comes old new l m h = count_stays (suits_if goes l.row) (suits_if comes l.row) (count_of old l.row) (count_of new l.row) (m.each l.row) h

counted_then : (goes comes : Option Candidate) (old new : List Candidate) (ls : List Listener) → Moves goes comes old new → AreCounted old ls → AreCounted new (map (moved_on goes comes) ls)
counted_then goes comes old new [] m all = tt
counted_then goes comes old new (l ∷ ls) m all = (
  by_test (is_moved goes comes l)
      (λ k. rw k (moves_to goes comes old new l m all.0 k))
      (λ k. rw k (all.0 ∙ sym (stays_at goes comes old new l m k))),
  counted_then goes comes old new ls m all.1,
)

pub current : (goes comes : Option Candidate) (old new : List Candidate) (ls : List Listener) → Ascend (λ (l : Listener). l.row.id) ls → Moves goes comes old new → AreCounted old ls
    → AreCounted new (recounted (recounts goes comes ls) ls)
current goes comes old new ls up m all = rw (recounted_all goes comes ls up) (counted_then goes comes old new ls m all)

-- the listeners stay
set_keeps : (r : Recount) (ls : List Listener) → map (λ (l : Listener). l.row) (with_count r ls) ≡ map (λ (l : Listener). l.row) ls
set_keeps r [] = refl
set_keeps r (l ∷ ls) =
    by_test (l.row.id == r.id)
    (λ k. rw k (ap (λ (rest : List ListenerRow). l.row ∷ rest) (set_keeps r ls)))
    (λ k. rw k (ap (λ (rest : List ListenerRow). l.row ∷ rest) (set_keeps r ls)))

pub listeners_stay : (rs : List Recount) (ls : List Listener) → map (λ (l : Listener). l.row) (recounted rs ls) ≡ map (λ (l : Listener). l.row) ls
listeners_stay [] ls = refl
listeners_stay (r ∷ rs) ls = listeners_stay rs (with_count r ls) ∙ set_keeps r ls

pub status_counted : (cs : List Candidate) (row : ListenerRow) → status cs row ≡ nat_lt 0 (count_of cs row)
status_counted cs row = any_counted (λ c. suits c row) cs

same_differ : (b : Bool) → differ b b ≡ false
same_differ true = refl
same_differ false = refl

-- those that hear
pub heard_turned : (goes comes : Option Candidate) (old new : List Candidate) (ls : List Listener) → Moves goes comes old new → AreCounted old ls
    → map heard (filter is_heard (recounts goes comes ls)) ≡ map (told_of new) (filter (λ row. differ (status old row) (status new row)) (map (λ (l : Listener). l.row) ls))
heard_turned goes comes old new [] m all = refl
heard_turned goes comes old new (l ∷ ls) m all =
    let ih = heard_turned goes comes old new ls m all.1 in
    let was : status old l.row ≡ nat_lt 0 l.count = status_counted old l.row ∙ ap (nat_lt 0) (sym all.0) in
    by_test (is_moved goes comes l)
    (λ k.
    let is : status new l.row ≡ nat_lt 0 (recount_of goes comes l).is = status_counted new l.row ∙ ap (nat_lt 0) (sym (moves_to goes comes old new l m all.0 k)) in
    by_test (differ (nat_lt 0 l.count) (nat_lt 0 (recount_of goes comes l).is))
    (λ h.
    let hears : heard (recount_of goes comes l) ≡ told_of new l.row = ap (λ (b : Bool). record { id = l.row.id; matching = b }) (sym is) in
    rw (k, was, is, h) (λ i. hears i ∷ ih i))
    (λ h. rw (k, was, is, h) ih))
    (λ k.
    let same : status new l.row ≡ status old l.row = status_counted new l.row ∙ ap (nat_lt 0) (stays_at goes comes old new l m k) ∙ sym (status_counted old l.row) in
    rw (k, same, same_differ (status old l.row)) ih)
