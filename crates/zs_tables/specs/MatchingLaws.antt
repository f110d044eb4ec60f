-- Laws of matching, by which a reader may check its definitions: what becomes of counts and of statuses where someone comes or goes.
use Rattle.std.specs.Prelude.{◌≡◌, ℕ, ◌+◌, nat_lt, Bool, not, ◌==◌, List, [], ◌∷◌, ◌++◌, Option, Some, None, map, filter, option_map, if◌then◌else◌}
use Rattle.std.specs.List.{find}
use Rattle.zs_tables.specs.declared.listener.ListenerRow.{ListenerRow}
use Rattle.zs_tables.specs.declared.recount.Recount.{Recount}
use Rattle.zs_subscriptions.specs.declared.subscriber.SubRow.{SubRow}
use Rattle.zs_tables.specs.declared.queryable.QueryableRow.{QueryableRow}
use Rattle.zs_tables.specs.declared.remote_row.RemoteSubscriber.{RemoteSubscriber}
use Rattle.zs_tables.specs.declared.remote_row.RemoteQueryable.{RemoteQueryable}
use Rattle.zs_subscriptions.specs.Ascending.{Ascend, placed_by}
use Rattle.zs_tables.specs.RemoteEntities.{RemoteEntities}
use Rattle.zs_tables.specs.Matching.{Candidate, Listener, own_sub, own_queryable, remote_subscriber, remote_queryable, candidates, status, count_of, AreCounted, suits_if, recounts, recounted, is_heard}

-- one, if it is so
abbrev pub one_if : Bool → ℕ
one_if b = if b then 1 else 0

-- one candidate went and another one came, if there are such: each listener counts those that it listens for
pub record Moves (goes comes : Option Candidate) (old new : List Candidate) : Type 0 where
  pub each : (row : ListenerRow) → count_of new row + one_if (suits_if goes row) ≡ count_of old row + one_if (suits_if comes row)

-- a subscriber of this session comes, and one goes
abbrev pub SubsMove : Type 0
SubsMove =
    (subs : List SubRow) (queryables : List QueryableRow) (told : RemoteEntities) → Ascend (λ row. row.id) subs
    → ((row : SubRow) → Moves None (Some (own_sub row)) (candidates subs queryables told) (candidates (subs ++ row ∷ []) queryables told))
    × ((id : ℕ)
    → Moves (option_map own_sub (find (λ row. row.id == id) subs)) None (candidates subs queryables told)
    (candidates (filter (λ row. not (row.id == id)) subs) queryables told))

-- a queryable of this session
abbrev pub QueryablesMove : Type 0
QueryablesMove =
    (subs : List SubRow) (queryables : List QueryableRow) (told : RemoteEntities) → Ascend (λ row. row.id) queryables
    → ((row : QueryableRow) → Moves None (Some (own_queryable row)) (candidates subs queryables told) (candidates subs (queryables ++ row ∷ []) told))
    × ((id : ℕ)
    → Moves (option_map own_queryable (find (λ row. row.id == id) queryables)) None (candidates subs queryables told)
    (candidates subs (filter (λ row. not (row.id == id)) queryables) told))

-- a subscriber of the other side comes in place of the one of its number, if there is one, and one goes
abbrev pub RemoteSubscribersMove : Type 0
RemoteSubscribersMove =
    (subs : List SubRow) (queryables : List QueryableRow) (told : RemoteEntities) → Ascend (λ row. row.number) told.subs
    → ((row : RemoteSubscriber)
    → Moves (option_map remote_subscriber (find (λ other. other.number == row.number) told.subs)) (Some (remote_subscriber row)) (candidates subs queryables told)
    (candidates subs queryables (record told { subs = placed_by (λ other. other.number) row told.subs })))
    × ((number : ℕ)
    → Moves (option_map remote_subscriber (find (λ row. row.number == number) told.subs)) None (candidates subs queryables told)
    (candidates subs queryables (record told { subs = filter (λ row. not (row.number == number)) told.subs })))

-- a queryable of the other side
abbrev pub RemoteQueryablesMove : Type 0
RemoteQueryablesMove =
    (subs : List SubRow) (queryables : List QueryableRow) (told : RemoteEntities) → Ascend (λ row. row.number) told.queryables
    → ((row : RemoteQueryable)
    → Moves (option_map remote_queryable (find (λ other. other.number == row.number) told.queryables)) (Some (remote_queryable row)) (candidates subs queryables told)
    (candidates subs queryables (record told { queryables = placed_by (λ other. other.number) row told.queryables })))
    × ((number : ℕ)
    → Moves (option_map remote_queryable (find (λ row. row.number == number) told.queryables)) None (candidates subs queryables told)
    (candidates subs queryables (record told { queryables = filter (λ row. not (row.number == number)) told.queryables })))

-- counts that are recounted, of those listeners alone for which one came or went, are the counts of all that are there then
abbrev pub RecountsAreCurrent : Type 0
RecountsAreCurrent =
    (goes comes : Option Candidate) (old new : List Candidate) (ls : List Listener) → Ascend (λ l. l.row.id) ls → Moves goes comes old new → AreCounted old ls
    → AreCounted new (recounted (recounts goes comes ls) ls)

-- and the listeners are the same
abbrev pub RecountsKeepListeners : Type 0
RecountsKeepListeners = (rs : List Recount) (ls : List Listener) → map (λ l. l.row) (recounted rs ls) ≡ map (λ l. l.row) ls

-- anyone matches where the count is not zero
abbrev pub StatusIsCount : Type 0
StatusIsCount = (cs : List Candidate) (row : ListenerRow) → status cs row ≡ nat_lt 0 (count_of cs row)

-- what a listener hears
pub record Heard : Type 0 where
  pub id : ℕ
  pub matching : Bool

-- of a recount, and of a status
abbrev pub heard : Recount → Heard
heard r = record { id = r.id; matching = nat_lt 0 r.is }

abbrev pub told_of : List Candidate → ListenerRow → Heard
told_of cs row = record { id = row.id; matching = status cs row }

-- whether two answers differ
abbrev pub differ : Bool → Bool → Bool
differ before after = if before then not after else after

-- just those listeners hear whose status is another one than before, in their order, and they hear the new one
abbrev pub ChangesAreHeard : Type 0
ChangesAreHeard =
    (goes comes : Option Candidate) (old new : List Candidate) (ls : List Listener) → Moves goes comes old new → AreCounted old ls
    → map heard (filter is_heard (recounts goes comes ls))
    ≡ map (told_of new) (filter (λ row. differ (status old row) (status new row)) (map (λ l. l.row) ls))
