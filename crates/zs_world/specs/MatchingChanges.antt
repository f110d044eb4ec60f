-- What changes of matching make of its tables.
use Rattle.std.specs.Prelude.{ℕ, ◌==◌, Bool, not, List, [], ◌∷◌, filter, Option, Some, None}
use Rattle.zs_keys.specs.Key.{undeclared}
use Rattle.zs_subscriptions.specs.Ascending.{placed_by}
use Rattle.zs_tables.specs.declared.listener.ListenerRow.{ListenerRow}
use Rattle.zs_world.specs.declared.change.Change.{Change}
use Rattle.zs_world.specs.declared.change.Change.TheVariants.{Nothing, OfEntities, OfMatching}
use Rattle.zs_world.specs.declared.change.EntityRow.TheVariants.{Listener as new_listener}
use Rattle.zs_world.specs.declared.change.EntityChange.TheVariants.{Add as AddEntity}
use Rattle.zs_world.specs.declared.change.MatchingChange.{MatchingChange}
use Rattle.zs_world.specs.declared.change.MatchingChange.TheVariants.{TellSub, ForgetSub, TellQueryable, ForgetQueryable}
use Rattle.zs_entity_tables.specs.MatchingTables.{Matching}

-- a listener that is declared, where there is something to listen to
abbrev pub listen_change : List ListenerRow → Change
listen_change [] = Nothing
listen_change (row ∷ rows) = OfEntities (AddEntity (new_listener row))

-- what the network tells of a subscriber and of a queryable
abbrev pub remote_subscriber_change : ℕ → Option (List ℕ) → Change
remote_subscriber_change id None = Nothing
remote_subscriber_change id (Some text) = OfMatching (TellSub (record { number = id; key = undeclared text }))

abbrev pub remote_queryable_change : ℕ → Bool → Option (List ℕ) → Change
remote_queryable_change id complete None = Nothing
remote_queryable_change id complete (Some text) = OfMatching (TellQueryable (record { number = id; complete = complete; key = undeclared text }))

-- the tables behind a change
abbrev pub matching_after : MatchingChange → Matching → Matching
matching_after (TellSub row) m = record m { remote_entities = record m.remote_entities { subs = placed_by (λ s. s.number) row m.remote_entities.subs } }
matching_after (ForgetSub number) m = record m { remote_entities = record m.remote_entities { subs = filter (λ s. not (s.number == number)) m.remote_entities.subs } }
matching_after (TellQueryable row) m = record m { remote_entities = record m.remote_entities { queryables = placed_by (λ q. q.number) row m.remote_entities.queryables } }
matching_after (ForgetQueryable number) m = record m {
  remote_entities = record m.remote_entities { queryables = filter (λ q. not (q.number == number)) m.remote_entities.queryables };
}
