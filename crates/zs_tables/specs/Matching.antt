-- Who matches what listeners listen for, and how the numbers of those that match change.
use Rattle.std.specs.Prelude.{◌≡◌, ℕ, ◌+◌, ◌-◌, nat_lt, Bool, true, false, not, ◌==◌, ◌&&◌, List, [], ◌∷◌, ◌++◌, Option, Some, None, map, filter, if◌then◌else◌}
use Rattle.std.specs.List.{list_any, count_by, AllByRecursion}
use Rattle.zs_keys.specs.Matching.{intersects, includes}
use Rattle.zs_tables.specs.declared.candidate.Offer.{Offer}
use Rattle.zs_tables.specs.declared.candidate.Offer.TheVariants.{Subscriber, Queryable}
use Rattle.zs_tables.specs.declared.candidate.Candidate.{Candidate as candidate_given}
use Rattle.zs_tables.specs.declared.listener.Sought.{Sought}
use Rattle.zs_tables.specs.declared.listener.Sought.TheVariants.{Subscribers, Queryables, CompleteQueryables}
use Rattle.zs_tables.specs.declared.listener.ListenerRow.{ListenerRow}
pub use Rattle.zs_tables.specs.declared.listener.Listener.{Listener}
use Rattle.zs_tables.specs.declared.recount.Recount.{Recount}
use Rattle.zs_subscriptions.specs.declared.subscriber.SubRow.{SubRow}
use Rattle.zs_tables.specs.declared.queryable.QueryableRow.{QueryableRow}
use Rattle.zs_tables.specs.declared.remote_row.RemoteSubscriber.{RemoteSubscriber}
use Rattle.zs_tables.specs.declared.remote_row.RemoteQueryable.{RemoteQueryable}
use Rattle.zs_subscriptions.specs.Recipients.{takes}
use Rattle.zs_tables.specs.RemoteEntities.{RemoteEntities}

-- someone whom listeners may listen for: of this session or of the network, a subscriber or a queryable, on this text
pub record Candidate : Type 0 where
  pub local : Bool
  pub offer : Offer
  pub text : List ℕ

-- a candidate as code hands it over
abbrev pub seen : candidate_given → Candidate
seen c = record { local = c.local; offer = c.offer; text = c.key.now.text }

abbrev pub seen_if : Option candidate_given → Option Candidate
seen_if None = None
seen_if (Some c) = Some (seen c)

-- whether what is sought on one text is on offer on the other
abbrev pub is_sought : Sought → List ℕ → Offer → List ℕ → Bool
is_sought Subscribers mine Subscriber its = intersects its mine
is_sought Queryables mine (Queryable complete) its = intersects its mine
is_sought CompleteQueryables mine (Queryable complete) its = complete && includes its mine
is_sought sought mine offer its = false

-- whether a candidate is one that a listener listens for: it is of those that count, and its key fits
abbrev pub suits : Candidate → ListenerRow → Bool
suits c row = takes c.local row.destination && is_sought row.sought row.key.text c.offer c.text

-- the candidates that there are: the subscribers and queryables of this session, whatever their origin, and those that the other side
-- declared
abbrev pub own_sub : SubRow → Candidate
own_sub row = record { local = true; offer = Subscriber; text = row.key.text }

abbrev pub own_queryable : QueryableRow → Candidate
own_queryable row = record { local = true; offer = Queryable row.complete; text = row.key.text }

abbrev pub remote_subscriber : RemoteSubscriber → Candidate
remote_subscriber row = record { local = false; offer = Subscriber; text = row.key.text }

abbrev pub remote_queryable : RemoteQueryable → Candidate
remote_queryable row = record { local = false; offer = Queryable row.complete; text = row.key.text }

abbrev pub candidates : List SubRow → List QueryableRow → RemoteEntities → List Candidate
candidates subs queryables told =
    map own_sub subs ++ map own_queryable queryables ++ map remote_subscriber told.subs ++ map remote_queryable told.queryables

-- whether anyone matches, and how many do
abbrev pub status : List Candidate → ListenerRow → Bool
status cs row = list_any (λ c. suits c row) cs

abbrev pub count_of : List Candidate → ListenerRow → ℕ
count_of cs row = count_by (λ c. suits c row) cs

-- the count of each listener is that of the candidates that match
abbrev pub AreCounted : List Candidate → List Listener → Type 0
AreCounted cs ls = AllByRecursion (λ l. l.count ≡ count_of cs l.row) ls

-- whether a listener listens for a candidate, if there is one
abbrev pub suits_if : Option Candidate → ListenerRow → Bool
suits_if None row = false
suits_if (Some c) row = suits c row

-- whether the count of a listener changes where one candidate goes and another one comes
abbrev pub is_moved : Option Candidate → Option Candidate → Listener → Bool
is_moved goes comes l = if suits_if goes l.row then not (suits_if comes l.row) else suits_if comes l.row

-- what becomes of its count
abbrev pub recount_of : Option Candidate → Option Candidate → Listener → Recount
recount_of goes comes l = record {
  id = l.row.id;
  was = l.count;
  is = if suits_if comes l.row then l.count + 1 else l.count - 1;
}

-- of each listener whose count changes
abbrev pub recounts : Option Candidate → Option Candidate → List Listener → List Recount
recounts goes comes ls = map (recount_of goes comes) (filter (is_moved goes comes) ls)

-- the listeners with the count of one set, and of several
abbrev pub set_if : Recount → Listener → Listener
set_if r l = if l.row.id == r.id then record l { count = r.is } else l

abbrev pub with_count : Recount → List Listener → List Listener
with_count r ls = map (set_if r) ls

abbrev pub recounted : List Recount → List Listener → List Listener
recounted [] ls = ls
recounted (r ∷ rs) ls = recounted rs (with_count r ls)

-- whether a listener hears of it: from none to some, or from some to none
abbrev pub is_heard : Recount → Bool
is_heard r = if nat_lt 0 r.was then not (nat_lt 0 r.is) else nat_lt 0 r.is
