-- Matching, told by the events alone: whom the network told, whether anyone matches a listener, and what listeners hear.
use Rattle.std.specs.Prelude.{ℕ, Bool, true, false, not, ◌&&◌, ◌==◌, List, [], ◌∷◌, ◌++◌, Option, Some, map, filter}
use Rattle.std.specs.List.{list_any}
use Rattle.zs_keys.specs.Key.{undeclared}
use Rattle.zs_tables.specs.declared.remote_row.RemoteSubscriber.{RemoteSubscriber}
use Rattle.zs_tables.specs.declared.remote_row.RemoteQueryable.{RemoteQueryable}
use Rattle.zs_tables.specs.declared.listener.ListenerRow.{ListenerRow}
use Rattle.zs_tables.specs.Matching.{Candidate, candidates, status}
use Rattle.zs_tables.specs.MatchingLaws.{differ}
use Rattle.zs_events.specs.declared.turn.Kind.{Kind}
use Rattle.zs_events.specs.declared.turn.Effect.{Effect}
use Rattle.zs_events.specs.declared.turn.Effect.TheVariants.{Matching}
use Rattle.zs_events.specs.Kinds.{ToMatching, TellsSub, EndsSub, TellsQueryable, EndsQueryable, row_of}
use Rattle.zs_model.specs.Entry.{Entry}
use Rattle.zs_model.specs.Listeners.{listening, listener_ends, is_listener}
use Rattle.zs_model.specs.Live.{appended, live_subs, live_queryables, live_pubs, live_queriers, live_listeners}

-- the subscriber that the network tells, given the text of its key, and whether it tells anew of a number
abbrev pub remote_subscriber_row : ToMatching → Option (List ℕ) → List RemoteSubscriber
remote_subscriber_row (TellsSub id) (Some text) = record { number = id; key = undeclared text } ∷ []
remote_subscriber_row to text = []

abbrev pub renews_sub : ToMatching → RemoteSubscriber → Bool
renews_sub (TellsSub id) row = row.number == id
renews_sub (EndsSub id) row = row.number == id
renews_sub to row = false

-- the same of a queryable
abbrev pub remote_queryable_row : ToMatching → Option (List ℕ) → List RemoteQueryable
remote_queryable_row (TellsQueryable id complete) (Some text) = record { number = id; complete = complete; key = undeclared text } ∷ []
remote_queryable_row to text = []

abbrev pub renews_queryable : ToMatching → RemoteQueryable → Bool
renews_queryable (TellsQueryable id complete) row = row.number == id
renews_queryable (EndsQueryable id) row = row.number == id
renews_queryable to row = false

-- the subscribers that the network told and did not end, of each number the last one
abbrev pub remote_subscribers : List Entry → List RemoteSubscriber
remote_subscribers [] = []
remote_subscribers (x ∷ past) =
    appended (filter (λ row. not (renews_sub (row_of x.event).to_matching row)) (remote_subscribers past)) (remote_subscriber_row (row_of x.event).to_matching x.text)

-- and the queryables
abbrev pub remote_queryables : List Entry → List RemoteQueryable
remote_queryables [] = []
remote_queryables (x ∷ past) =
    appended (filter (λ row. not (renews_queryable (row_of x.event).to_matching row)) (remote_queryables past))
    (remote_queryable_row (row_of x.event).to_matching x.text)

-- all that a listener may listen for
abbrev pub present : List Entry → List Candidate
present past = candidates (live_subs past) (live_queryables past) (record { subs = remote_subscribers past; queryables = remote_queryables past })

-- whether anyone matches a listener
abbrev pub is_matched : List Entry → ListenerRow → Bool
is_matched past row = status (present past) row

-- whether anyone matches what has a kind and number, as a number
abbrev pub as_number : Bool → ℕ
as_number true = 1
as_number false = 0

abbrev pub status_of : List Entry → Kind → ℕ → ℕ
status_of past kind id = as_number (list_any (is_matched past) (listening (live_pubs past) (live_queriers past) 0 kind id))

-- whether the end of a number means nothing: it was not told
abbrev pub ends_unknown : List RemoteSubscriber → List RemoteQueryable → ToMatching → Bool
ends_unknown subs queryables (EndsSub id) = not (list_any (λ row. row.number == id) subs)
ends_unknown subs queryables (EndsQueryable id) = not (list_any (λ row. row.number == id) queryables)
ends_unknown subs queryables to = false

-- what listeners hear: those for whom the one test has another answer than the other hear this one
abbrev pub turned : (ListenerRow → Bool) → (ListenerRow → Bool) → List ListenerRow → List Effect
turned before after rows = map (λ row. Matching row.id (after row)) (filter (λ row. differ (before row) (after row)) rows)

-- what an accepted event means to listeners: those that live no longer are called no more, and each of those that live behind it hears
-- whether anyone matches, unless it was so before the event; a new one counts from nobody
abbrev pub listener_effects : List Entry → Entry → List Effect
listener_effects past x =
    listener_ends (filter (λ row. not (is_listener row.id (live_listeners (x ∷ past)))) (live_listeners past))
    ++ turned (λ row. is_listener row.id (live_listeners past) && is_matched past row) (is_matched (x ∷ past)) (live_listeners (x ∷ past))
