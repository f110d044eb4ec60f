-- What an event that a session took leaves to do.
use Rattle.std.specs.Prelude.{ℕ, ◌==◌, Bool, true, false, List, [], ◌∷◌, Option, Some, None, if◌then◌else◌}
use Rattle.std.specs.List.{flat_map}
use Rattle.atomic_table.specs.Seated.{TableId}
use Rattle.zs_events.specs.declared.turn.Answer.{Answer}
use Rattle.zs_events.specs.Turn.{was_refused}
use Rattle.zs_posts.specs.declared.key.Key.{Key}
use Rattle.zs_posts.specs.Passes.{LentSeen}
use Rattle.zs_hands.specs.declared.handed.Handed.{Handed}
use Rattle.zs_hands.specs.declared.handed.Handed.TheVariants.{Called, Evicted, Skipped}
use Rattle.zs_turns.specs.declared.item.Item.{Item}
use Rattle.zs_turns.specs.declared.item.Item.TheVariants.{Sample, Reply, Query, Matching}
use Rattle.zs_turns.specs.Queries.{QuerySeen}
use Rattle.zs_held.specs.declared.asked.Asked.{Asked}
use Rattle.zs_held.specs.Receipts.{asked_of}

-- what the event was answered, the handler that is to go back, the passes that were lent for its calls, and whether a gate is waited
-- for, with that gate
pub record WorkSeen (H : Type 0) : Type 0 where
  pub answer : Answer
  pub back : Option H
  pub lents : List LentSeen
  pub waits : Bool
  pub gate : Option TableId

-- the passes of calls that were made, and what became of each item
pub record WorkedSeen (D : Type 0) : Type 0 where
  pub lents : List LentSeen
  pub reports : List (Handed Item D)

-- the handler that goes back: that of a refused event
abbrev pub back_at : {H : Type 0} → Answer → Option H → Option H
back_at answer handler = if was_refused answer then handler else None

-- what a receipt says of gates: where the event is accepted, that the gate of the key was asked for, if there is one
abbrev pub asked_at : Bool → Option Key → Bool → Option Asked → Option Asked
asked_at accepted None held old = old
asked_at false (Some key) held old = old
asked_at true (Some key) held old = asked_of (Some key) held

-- the query that an item is, if it is one of the session of that tag
abbrev pub query_in : ℕ → Item → List QuerySeen
query_in tag (Query query) = if query.tag == tag then query ∷ [] else []
query_in tag (Sample sample) = []
query_in tag (Reply reply) = []
query_in tag (Matching matching) = []

-- the query of that session that came back in a report: the handler gave it up, or wasn't called with it, as can be where the call's
-- event asks queryables
abbrev pub returned_in : {D : Type 0} → ℕ → Bool → Handed Item D → List QuerySeen
returned_in tag asks (Called done) = []
returned_in tag asks (Evicted item done) = query_in tag item
returned_in tag asks (Skipped item) = if asks then query_in tag item else []

-- those that came back in all reports, in order
abbrev pub returned : {D : Type 0} → ℕ → Bool → List (Handed Item D) → List QuerySeen
returned tag asks reports = flat_map (returned_in tag asks) reports
