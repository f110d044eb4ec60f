-- Which queryables a request meets.
use Rattle.std.specs.Prelude.{ℕ, Bool, ◌&&◌, ◌||◌, not, List, map, filter, if◌then◌else◌}
use Rattle.zs_keys.specs.Matching.{intersects, includes}
use Rattle.zs_tables.specs.declared.queryable.QueryableRow.{QueryableRow}
use Rattle.zs_subscriptions.specs.Recipients.{takes}

-- whether a queryable takes a request of this session, or one from the network, and one that wants complete ones alone
abbrev pub is_for : Bool → Bool → QueryableRow → Bool
is_for local complete q = takes local q.origin && (q.complete || not complete)

-- whether a request on this text meets a queryable
abbrev pub is_met : Bool → Bool → List ℕ → QueryableRow → Bool
is_met local complete text q = is_for local complete q && intersects text q.key.text

-- the ids of the queryables that it meets
abbrev pub met : Bool → Bool → List ℕ → List QueryableRow → List ℕ
met local complete text rows = map (λ q. q.id) (filter (is_met local complete text) rows)

-- whether a queryable is complete and its key includes a text
abbrev pub answers_whole : List ℕ → QueryableRow → Bool
answers_whole text q = q.complete && includes q.key.text text

-- whether one answers for a text, whatever its origin: its key has a key in common with it, or, for complete ones alone, includes it
abbrev pub answers_for : Bool → List ℕ → QueryableRow → Bool
answers_for complete text q = if complete then answers_whole text q else intersects q.key.text text
