-- Every change that fits keeps the groups those of the entities.
use Rattle.std.proofs.Common.{◌≡◌, ◌≤◌, ◌<◌, ℕ, ◌+◌, List, [], ◌∷◌, ◌++◌, map, Option, Some, None, IfSome, Result, Ok, Err, OnOk, OnErr, sym, subst, arith}
use Rattle.std.specs.Prelude.{◌==◌, not, filter, option_map}
use Rattle.std.specs.List.{AllByRecursion, find}
use Rattle.zs_keys.specs.Key.{Key}
use Rattle.zs_keys.specs.Matching.{intersects}
use Rattle.zs_subscriptions.specs.Ascending.{Ascend}
use Rattle.zs_tables.specs.Groups.{Group, has_text, groups_of}
use Rattle.zs_subscriptions.specs.Recipients.{matches}
use Rattle.zs_subscriptions.specs.declared.subscriber.SubRow.{SubRow}
use Rattle.zs_tables.specs.Types.{GroupKind, Subscribers, Publishers, Queriers}
use Rattle.zs_subscriptions.proofs.Ascending.{all_weaker, all_filter, all_push, ascend_filter, ascend_map, ascend_push, ascend_unmap}
use Rattle.zs_model.specs.Groups.{Shared, sub_shared, pub_shared, querier_shared, joined_by, left_found, aggregates_of}
use Rattle.zs_model.specs.declared.settings.Settings.{Settings}
use Rattle.zs_model.proofs.Groups.{IsOne}
use Rattle.zs_model.proofs.Sharing.{AreGrouped, grouped_none, grouped_more}
use Rattle.zs_world.specs.World.{World, new_world}
use Rattle.zs_world.specs.Changes.{Fits, with_change}
use Rattle.zs_world.specs.declared.change.Change.{Change}
use Rattle.zs_world.specs.declared.change.Change.TheVariants.{Nothing, OfEntities, Shut}
use Rattle.zs_world.specs.declared.change.EntityChange.TheVariants.{Add as AddEntity, End as EndEntity}
use Rattle.zs_world.specs.declared.change.EntityRow.TheVariants.{Sub as new_sub, Pub as new_pub, Querier as new_querier}
use Rattle.zs_events.specs.declared.entity_kind.EntityKind.TheVariants.{Sub as sub_sort, Pub as pub_sort, Querier as querier_sort}
use Rattle.zs_standing.proofs.GroupNumbers.{pushed, left_out, less_found}
use Rattle.zs_standing.proofs.Watching.{entity_up}
use Rattle.zs_core.specs.Keeping.{HasOne, AreKept, KeepsGroups, shared_at}

-- one group at most, either way
one_is : (gs : List Group) → HasOne gs → IsOne gs
one_is [] one = tt
one_is (g ∷ []) one = one
one_is (g ∷ h ∷ gs) one = absurd one

is_one : (gs : List Group) → IsOne gs → HasOne gs
is_one [] one = tt
is_one (g ∷ []) one = one
is_one (g ∷ h ∷ gs) one = absurd one

grouped : (aggregates : List Key) (gs : List Group) (xs : List Shared) (next : ℕ) → AreKept aggregates gs xs next → AreGrouped aggregates gs xs
grouped aggregates gs xs next k = record { apart = λ text. one_is (filter (has_text text) gs) (k.apart text); members = k.members }

kept : (aggregates : List Key) (gs : List Group) (xs : List Shared) (next : ℕ) → AreGrouped aggregates gs xs → Ascend (λ (x : Shared). x.id) xs → AllByRecursion (λ (x : Shared). x.id < next) xs
    → AreKept aggregates gs xs next
kept aggregates gs xs next are up below = record { apart = λ text. is_one (filter (has_text text) gs) (are.apart text); members = are.members; ascend = up; below = below }

kept_none : (aggregates : List Key) (next : ℕ) → AreKept aggregates [] [] next
kept_none aggregates next = kept aggregates [] [] next (grouped_none aggregates) tt tt

-- later numbers
kept_wider : (aggregates : List Key) (gs : List Group) (xs : List Shared) (next later : ℕ) → next ≤ later → AreKept aggregates gs xs next → AreKept aggregates gs xs later
kept_wider aggregates gs xs next later up k = record {
  apart = k.apart;
  members = k.members;
  ascend = k.ascend;
  below = all_weaker (λ (x : Shared). x.id < next) (λ (x : Shared). x.id < later) (λ x less. omega (arith, less, up)) xs k.below;
}

-- one more
kept_push : (aggregates : List Key) (gs : List Group) (xs : List Shared) (x : Shared) (next : ℕ) → x.id ≡ next → AreKept aggregates gs xs next
    → AreKept aggregates (joined_by aggregates x gs) (xs ++ x ∷ []) (next + 1)
kept_push aggregates gs xs x next is k =
    let under : AllByRecursion (λ y. y.id < x.id) xs = all_weaker (λ (y : Shared). y.id < next) (λ (y : Shared). y.id < x.id) (λ y less. omega (arith, less, is)) xs k.below in
    kept aggregates (joined_by aggregates x gs) (xs ++ x ∷ []) (next + 1) (grouped_more aggregates gs xs x under (grouped aggregates gs xs next k))
    (ascend_push (λ (y : Shared). y.id) xs x k.ascend under)
    (all_push (λ (y : Shared). y.id < next + 1) xs x (all_weaker (λ (y : Shared). y.id < next) (λ (y : Shared). y.id < next + 1) (λ y less. omega (arith, less)) xs k.below) (omega (arith, is)))

-- one less
kept_less : {R : Type 0} (shared : R → Shared) (aggregates : List Key) (gs : List Group) (rows : List R) (id next : ℕ) → AreKept aggregates gs (map shared rows) next
    → AreKept aggregates (left_found aggregates (option_map shared (find (λ r. (shared r).id == id) rows)) gs) (map shared (filter (λ row. not ((shared row).id == id)) rows)) next
kept_less {R} shared aggregates gs rows id next k =
    kept aggregates (left_found aggregates (option_map shared (find (λ r. (shared r).id == id) rows)) gs) (map shared (filter (λ row. not ((shared row).id == id)) rows)) next
    (less_found shared aggregates gs rows id (ascend_unmap (λ (x : Shared). x.id) shared rows k.ascend) (grouped aggregates gs (map shared rows) next k))
    (rw (left_out shared rows id) (ascend_filter (λ (x : Shared). x.id) (λ x. not (x.id == id)) (map shared rows) k.ascend))
    (rw (left_out shared rows id) (all_filter (λ (x : Shared). x.id < next) (λ x. not (x.id == id)) (map shared rows) k.below))

-- a new session
pub keeps_new : (s : Settings) → KeepsGroups (new_world s)
keeps_new s Subscribers = kept_none s.aggregated_subscribers (s.entity_start + 1)
keeps_new s Publishers = kept_none s.aggregated_publishers (s.entity_start + 1)
keeps_new s Queriers = kept_none [] (s.entity_start + 1)

-- what doesn't touch the groups of a kind
untouched : (w : World) (c : Change) (kind : GroupKind) → KeepsGroups w
    → AreKept (aggregates_of kind w.settings) (groups_of kind w.groups) (shared_at kind w) (with_change c w).counters.entity
untouched w c kind keeps = kept_wider (aggregates_of kind w.settings) (groups_of kind w.groups) (shared_at kind w) w.counters.entity (with_change c w).counters.entity (entity_up w c) (keeps kind)

shut : (w : World) (kind : GroupKind) → AreKept (aggregates_of kind w.settings) (groups_of kind (with_change Shut w).groups) (shared_at kind (with_change Shut w)) w.counters.entity
shut w Subscribers = kept_none w.settings.aggregated_subscribers w.counters.entity
shut w Publishers = kept_none w.settings.aggregated_publishers w.counters.entity
shut w Queriers = kept_none [] w.counters.entity

pub keeps_more : (w : World) (c : Change) → Fits w c → KeepsGroups w → KeepsGroups (with_change c w)
keeps_more w (OfEntities (AddEntity (new_sub row))) fits keeps Subscribers =
    rw (pushed sub_shared w.entities.subs row)
    (kept_push w.settings.aggregated_subscribers w.groups.subscribers (map sub_shared w.entities.subs) (sub_shared row) w.counters.entity fits.0 (keeps Subscribers))
keeps_more w (OfEntities (AddEntity (new_sub row))) fits keeps Publishers = untouched w (OfEntities (AddEntity (new_sub row))) Publishers keeps
keeps_more w (OfEntities (AddEntity (new_sub row))) fits keeps Queriers = untouched w (OfEntities (AddEntity (new_sub row))) Queriers keeps
keeps_more w (OfEntities (AddEntity (new_pub row))) fits keeps Publishers =
    rw (pushed pub_shared w.entities.pubs row)
    (kept_push w.settings.aggregated_publishers w.groups.publishers (map pub_shared w.entities.pubs) (pub_shared row) w.counters.entity fits.0 (keeps Publishers))
keeps_more w (OfEntities (AddEntity (new_pub row))) fits keeps Subscribers = untouched w (OfEntities (AddEntity (new_pub row))) Subscribers keeps
keeps_more w (OfEntities (AddEntity (new_pub row))) fits keeps Queriers = untouched w (OfEntities (AddEntity (new_pub row))) Queriers keeps
keeps_more w (OfEntities (AddEntity (new_querier row))) fits keeps Queriers =
    rw (pushed querier_shared w.entities.queriers row)
    (kept_push [] w.groups.queriers (map querier_shared w.entities.queriers) (querier_shared row) w.counters.entity fits.0 (keeps Queriers))
keeps_more w (OfEntities (AddEntity (new_querier row))) fits keeps Subscribers = untouched w (OfEntities (AddEntity (new_querier row))) Subscribers keeps
keeps_more w (OfEntities (AddEntity (new_querier row))) fits keeps Publishers = untouched w (OfEntities (AddEntity (new_querier row))) Publishers keeps
keeps_more w (OfEntities (EndEntity sub_sort id)) fits keeps Subscribers = kept_less sub_shared w.settings.aggregated_subscribers w.groups.subscribers w.entities.subs id w.counters.entity (keeps Subscribers)
keeps_more w (OfEntities (EndEntity sub_sort id)) fits keeps Publishers = keeps Publishers
keeps_more w (OfEntities (EndEntity sub_sort id)) fits keeps Queriers = keeps Queriers
keeps_more w (OfEntities (EndEntity pub_sort id)) fits keeps Publishers = kept_less pub_shared w.settings.aggregated_publishers w.groups.publishers w.entities.pubs id w.counters.entity (keeps Publishers)
keeps_more w (OfEntities (EndEntity pub_sort id)) fits keeps Subscribers = keeps Subscribers
keeps_more w (OfEntities (EndEntity pub_sort id)) fits keeps Queriers = keeps Queriers
keeps_more w (OfEntities (EndEntity querier_sort id)) fits keeps Queriers = kept_less querier_shared [] w.groups.queriers w.entities.queriers id w.counters.entity (keeps Queriers)
keeps_more w (OfEntities (EndEntity querier_sort id)) fits keeps Subscribers = keeps Subscribers
keeps_more w (OfEntities (EndEntity querier_sort id)) fits keeps Publishers = keeps Publishers
keeps_more w Shut fits keeps kind = shut w kind
keeps_more w Nothing fits keeps kind = keeps kind
keeps_more w c fits keeps Subscribers = untouched w c Subscribers keeps
keeps_more w c fits keeps Publishers = untouched w c Publishers keeps
keeps_more w c fits keeps Queriers = untouched w c Queriers keeps

-- so does a change that is made or, for want of memory, not made
pub keeps_on : {T E : Type 0} (made : Result T E) (w new : World) (c : Change) → Fits w c → KeepsGroups w → OnOk made (new ≡ with_change c w) → OnErr made (new ≡ w) → KeepsGroups new
keeps_on (Ok x) w new c fits keeps done same = subst KeepsGroups (sym done) (keeps_more w c fits keeps)
keeps_on (Err x) w new c fits keeps done same = subst KeepsGroups (sym same) keeps

-- the list of a key ascends
pub matches_rise : (w : World) → KeepsGroups w → (key : Option Key) → IfSome (option_map (λ (k : Key). matches k.text w.entities.subs) key) (λ ids. Ascend (λ (id : ℕ). id) ids)
matches_rise w keeps None = tt
matches_rise w keeps (Some key) =
    ascend_map (λ (id : ℕ). id) (λ (row : SubRow). row.id) (filter (λ row. intersects key.text row.key.text) w.entities.subs)
    (ascend_filter (λ (row : SubRow). row.id) (λ row. intersects key.text row.key.text) w.entities.subs
    (ascend_unmap (λ (x : Shared). x.id) sub_shared w.entities.subs (keeps Subscribers).ascend))
