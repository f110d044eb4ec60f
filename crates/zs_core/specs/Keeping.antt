-- What every session keeps, whatever history it stands for: its groups are those of the entities that it has.
use Rattle.std.specs.Prelude.{◌≡◌, ℕ, ◌<◌, true, List, [], ◌∷◌, map, filter}
use Rattle.std.specs.List.{AllByRecursion}
use Rattle.zs_keys.specs.Key.{Key}
use Rattle.zs_subscriptions.specs.Ascending.{Ascend}
use Rattle.zs_tables.specs.Groups.{Group, has_text, has_members, members_of, groups_of}
use Rattle.zs_tables.specs.Types.{GroupKind, Subscribers, Publishers, Queriers}
use Rattle.zs_model.specs.Groups.{Shared, sub_shared, pub_shared, querier_shared, sharing, aggregates_of}
use Rattle.zs_world.specs.World.{World}

-- there is one group at most, and it has members
abbrev pub HasOne : List Group → Type 0
HasOne [] = Unit {0}
HasOne (g ∷ []) = has_members g ≡ true
HasOne (g ∷ h ∷ gs) = ⊥

-- groups of entities that share by these aggregates: a text has one group at most, and its members are just those who share the text; they
-- stand by their numbers, which are below the next one
pub record AreKept (aggregates : List Key) (gs : List Group) (xs : List Shared) (next : ℕ) : Type 0 where
  pub apart : (text : List ℕ) → HasOne (filter (has_text text) gs)
  pub members : (text : List ℕ) → members_of text gs ≡ sharing aggregates text xs
  pub ascend : Ascend (λ x. x.id) xs
  pub below : AllByRecursion (λ x. x.id < next) xs

-- the entities of a kind as groups see them
abbrev pub shared_at : GroupKind → World → List Shared
shared_at Subscribers w = map sub_shared w.entities.subs
shared_at Publishers w = map pub_shared w.entities.pubs
shared_at Queriers w = map querier_shared w.entities.queriers

abbrev pub KeepsGroups : World → Type 0
KeepsGroups w = (kind : GroupKind) → AreKept (aggregates_of kind w.settings) (groups_of kind w.groups) (shared_at kind w) w.counters.entity
