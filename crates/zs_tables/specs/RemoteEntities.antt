-- The subscribers and queryables that the other side declared.
use Rattle.std.specs.Prelude.{ℕ, Bool, ◌&&◌, List, if◌then◌else◌}
use Rattle.zs_keys.specs.Matching.{intersects, includes}
use Rattle.zs_tables.specs.declared.remote_row.RemoteSubscriber.{RemoteSubscriber}
use Rattle.zs_tables.specs.declared.remote_row.RemoteQueryable.{RemoteQueryable}

-- those of each kind by their numbers
pub record RemoteEntities : Type 0 where
  pub subs : List RemoteSubscriber
  pub queryables : List RemoteQueryable

-- whether a queryable is complete and its key includes a text
abbrev pub is_whole : List ℕ → RemoteQueryable → Bool
is_whole text row = row.complete && includes row.key.text text

-- whether one answers for a text: its key has a key in common with it, or, for complete ones alone, includes it
abbrev pub answers : Bool → List ℕ → RemoteQueryable → Bool
answers complete text row = if complete then is_whole text row else intersects row.key.text text
