-- Matching: the tables of it.
use Rattle.std.specs.Prelude.{ℕ, nat_lt, List, [], map}
use Rattle.zs_tables.specs.RemoteEntities.{RemoteEntities}
use Rattle.zs_tables.specs.declared.listener.Listener.{Listener}
use Rattle.zs_tables.specs.declared.listener.ListenerRow.{ListenerRow}
use Rattle.zs_tables.specs.declared.recount.Recount.{Recount}
use Rattle.zs_events.specs.declared.turn.Effect.{Effect}
use Rattle.zs_events.specs.declared.turn.Effect.TheVariants.{Matching as EffectMatching}

-- the tables: the live listeners, those of them that were left to themselves, and the subscribers and queryables that the network told
pub record Matching : Type 0 where
  pub listeners : List ListenerRow
  pub left : List ℕ
  pub remote_entities : RemoteEntities

abbrev pub no_matching : Matching
no_matching = record { listeners = []; left = []; remote_entities = record { subs = []; queryables = [] } }

-- what a close leaves of them
abbrev pub shut_matching : Matching → Matching
shut_matching m = record m { listeners = [] }

-- what a state keeps of them: each listener with how many match
pub record Kept : Type 0 where
  pub listeners : List Listener
  pub left : List ℕ
  pub remote_entities : RemoteEntities

-- the tables without the counts
abbrev pub shown : Kept → Matching
shown kept = record { listeners = map (λ l. l.row) kept.listeners; left = kept.left; remote_entities = kept.remote_entities }

-- nothing is kept
abbrev pub none_kept : Kept
none_kept = record { listeners = []; left = []; remote_entities = record { subs = []; queryables = [] } }

-- what a listener hears whose count was set
abbrev pub heard_effect : Recount → Effect
heard_effect r = EffectMatching r.id (nat_lt 0 r.is)
