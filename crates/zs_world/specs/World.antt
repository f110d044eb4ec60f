use Rattle.std.specs.Prelude.{ℕ, Bool, List, ◌+◌, false, []}
use Rattle.zs_model.specs.declared.settings.Settings.{Settings}
use Rattle.zs_subscriptions.specs.declared.subscriber.SubRow.{SubRow}
use Rattle.zs_tables.specs.declared.queryable.QueryableRow.{QueryableRow}
use Rattle.zs_tables.specs.Groups.{AllGroups}
use Rattle.zs_model.specs.declared.publisher.PubRow.{PubRow}
use Rattle.zs_model.specs.declared.querier.QuerierRow.{QuerierRow}
use Rattle.zs_model.specs.Cancelling.{Cancelling}
use Rattle.zs_subscriptions.specs.Numbers.{NumberedKey}
use Rattle.zs_subscriptions.specs.Contents.{Contents}
use Rattle.zs_query.specs.GetTable.{Asking}
use Rattle.zs_model.specs.Liveliness.{Liveliness, no_liveliness}
use Rattle.zs_entity_tables.specs.MatchingTables.{Matching, no_matching}
use Rattle.zs_tables.specs.Matching.{Candidate, candidates}
use Rattle.zs_query.specs.RequestTable.{Handing}
use Rattle.zs_entity_tables.specs.declared.declared_key.KeyHolders.{KeyHolders}
use Rattle.zs_model.specs.Groups.{no_groups}

-- the next number of each sort
pub record Counters : Type 0 where
  pub entity : ℕ
  pub key : ℕ

-- what the application has declared and not ended, ascending by number
pub record Entities : Type 0 where
  pub subs : List SubRow
  pub pubs : List PubRow
  pub queryables : List QueryableRow
  pub queriers : List QuerierRow
  -- the numbers of the subscribers and of the queryables that were left to themselves
  pub left_subs : List ℕ
  pub left_queryables : List ℕ

-- the keys that numbers stand for: those that this session declared, how many hold each of them, and those that the
-- network told
pub record DeclaredKeys : Type 0 where
  pub local_resources : List NumberedKey
  pub holders : List KeyHolders
  pub remote_resources : List NumberedKey

-- all that a session is at a moment, as plain lists and counters
pub record World : Type 0 where
  pub settings : Settings
  pub closed : Bool
  pub counters : Counters
  pub entities : Entities
  pub keys : DeclaredKeys
  -- those that share a network declaration
  pub groups : AllGroups
  pub asking : Asking
  pub liveliness : Liveliness
  pub matching : Matching
  pub handing : Handing
  pub cancelling : Cancelling

-- the tables that find subscribers by number, as they are at this moment
abbrev pub tables_of : World → Contents
tables_of w = record { rows = w.entities.subs; own = w.keys.local_resources; told = w.keys.remote_resources }

-- all that a listener may listen for
abbrev pub present_at : World → List Candidate
present_at w = candidates w.entities.subs w.entities.queryables w.matching.remote_entities

-- a session in which nothing is declared
abbrev pub new_world : Settings → World
new_world s = record {
  settings = s;
  closed = false;
  counters = record { entity = s.entity_start + 1; key = s.key_start };
  entities = record { subs = []; pubs = []; queryables = []; queriers = []; left_subs = []; left_queryables = [] };
  keys = record { local_resources = []; holders = []; remote_resources = [] };
  groups = no_groups;
  asking = record { gets = []; next = s.query_start; moment = 0 };
  liveliness = no_liveliness;
  matching = no_matching;
  handing = record { handed = 0; values = []; next = 0 };
  cancelling = record { next = 0; taken = [] };
}
