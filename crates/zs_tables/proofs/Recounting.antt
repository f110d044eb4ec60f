-- What becomes of counts: those alone change whose key meets that of who goes or comes.
use Rattle.std.proofs.Common.{◌≡◌, ◌≢◌, ℕ, ◌+◌, ◌-◌, ◌<◌, Bool, true, false, List, [], ◌∷◌, Option, Some, None, refl, sym, ap, ◌∙◌, arith, IsTrue}
use Rattle.std.specs.Prelude.{◌==◌, ◌&&◌, ◌||◌, nat_lt, not, map, filter, if◌then◌else◌}
use Rattle.std.specs.List.{AllByRecursion, find}
use Rattle.std.proofs.lemmas.Bool.Decides.{nat_tests}
use Rattle.zs_keys.specs.Matching.{intersects, includes}
use Rattle.zs_keys.proofs.IncludeMeets.{includes-meets}
use Rattle.zs_tables.specs.declared.candidate.Offer.{Offer}
use Rattle.zs_tables.specs.declared.candidate.Offer.TheVariants.{Subscriber, Queryable}
use Rattle.zs_tables.specs.declared.listener.Sought.{Sought}
use Rattle.zs_tables.specs.declared.listener.Sought.TheVariants.{Subscribers, Queryables, CompleteQueryables}
use Rattle.zs_tables.specs.declared.listener.ListenerRow.{ListenerRow}
use Rattle.zs_tables.specs.declared.recount.Recount.{Recount}
use Rattle.zs_subscriptions.specs.Ascending.{Ascend}
use Rattle.zs_subscriptions.specs.Recipients.{takes}
use Rattle.zs_tables.specs.Matching.{Candidate, Listener, is_sought, suits, suits_if, is_moved, recount_of, recounts}
use Rattle.zs_tables.specs.Listeners.{meets_if, meets_one, recount_in, recounts_at}
use Rattle.zs_subscriptions.proofs.Ascending.{all_both}
use Rattle.zs_subscriptions.proofs.ByKey.{by_test}

both_second : (a b : Bool) → (a && b) ≡ true → b ≡ true
both_second true b h = h
both_second false b h = absurd (cc)

-- who is sought has a key that meets the listener's
sought_meets : (sought : Sought) (mine : List ℕ) (offer : Offer) (its : List ℕ) → is_sought sought mine offer its ≡ true → intersects its mine ≡ true
sought_meets Subscribers mine Subscriber its h = h
sought_meets Subscribers mine (Queryable complete) its h = absurd (cc)
sought_meets Queryables mine Subscriber its h = absurd (cc)
sought_meets Queryables mine (Queryable complete) its h = h
sought_meets CompleteQueryables mine Subscriber its h = absurd (cc)
sought_meets CompleteQueryables mine (Queryable complete) its h =
    includes-meets its mine (both_second complete (includes its mine) h)

suits_meets : (c : Option Candidate) (row : ListenerRow) → meets_if c row ≡ false → suits_if c row ≡ false
suits_meets None row h = refl
suits_meets (Some c) row h =
    by_test (suits c row) (λ s. absurd (let m = sought_meets row.sought row.key.text c.offer c.text (both_second (takes c.local row.destination) (is_sought row.sought row.key.text c.offer c.text) s) in cc)) (λ s. s)

none_moved : (a b : Bool) → a ≡ false → b ≡ false → (if a then not b else b) ≡ false
none_moved a b h k = rw (h, k) refl

or_left : (a b : Bool) → (a || b) ≡ false → a ≡ false
or_left false b h = refl
or_left true b h = absurd (cc)

or_right : (a b : Bool) → (a || b) ≡ false → b ≡ false
or_right false b h = h
or_right true b h = absurd (cc)

-- a listener whose key meets neither is not moved
pub unmet_stays : (goes comes : Option Candidate) (l : Listener) → meets_one goes comes l.row ≡ false → is_moved goes comes l ≡ false
unmet_stays goes comes l h =
    none_moved (suits_if goes l.row) (suits_if comes l.row)
    (suits_meets goes l.row (or_left (meets_if goes l.row) (meets_if comes l.row) h))
    (suits_meets comes l.row (or_right (meets_if goes l.row) (meets_if comes l.row) h))

-- each listener is found by its number
pub found_each : (ls : List Listener) → Ascend (λ (l : Listener). l.row.id) ls → AllByRecursion (λ (l : Listener). find (λ (other : Listener). other.row.id == l.row.id) ls ≡ Some l) ls
found_each [] up = tt
found_each (l ∷ ls) up = (
  grind (arith, nat_tests),
  all_both (λ (later : Listener). l.row.id < later.row.id) (λ later. find (λ (other : Listener). other.row.id == later.row.id) ls ≡ Some later)
      (λ later. find (λ (other : Listener). other.row.id == later.row.id) (l ∷ ls) ≡ Some later) (λ later above is. grind (arith, nat_tests, above, is)) ls up.0 (found_each ls up.1),
)

recounts_each : (goes comes : Option Candidate) (all ls : List Listener) → AllByRecursion (λ (l : Listener). find (λ (other : Listener). other.row.id == l.row.id) all ≡ Some l) ls
    → recounts_at goes comes all (map (λ (l : Listener). l.row.id) (filter (λ (l : Listener). meets_one goes comes l.row) ls)) ≡ recounts goes comes ls
recounts_each goes comes all [] each = refl
recounts_each goes comes all (l ∷ ls) each =
    let ih = recounts_each goes comes all ls each.1 in
    by_test (meets_one goes comes l.row)
    (λ m. by_test (is_moved goes comes l)
    (λ k. rw (m, each.0, k) (ap (λ (rest : List Recount). recount_of goes comes l ∷ rest) ih))
    (λ k. rw (m, each.0, k) ih))
    (λ m. rw (m, unmet_stays goes comes l m) ih)

-- so looking at those that meet is looking at all
pub recounts_met : (goes comes : Option Candidate) (ls : List Listener) → Ascend (λ (l : Listener). l.row.id) ls
    → recounts_at goes comes ls (map (λ (l : Listener). l.row.id) (filter (λ (l : Listener). meets_one goes comes l.row) ls)) ≡ recounts goes comes ls
recounts_met goes comes ls up = recounts_each goes comes ls ls (found_each ls up)
