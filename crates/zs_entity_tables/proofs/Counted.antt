-- The numbers and the counts of listeners, where counts are set or listeners end.
use Rattle.std.proofs.Common.{◌≡◌, ℕ, ◌<◌, ◌+◌, Bool, List, [], ◌∷◌, ◌++◌, Option, refl, ap}
use Rattle.std.specs.Prelude.{◌==◌, ◌||◌, map, filter, All, Result, Ok, Err, OnOk}
use Rattle.std.specs.List.{AllByRecursion, list_any}
use Rattle.std.proofs.lemmas.List.Elements.{recursion_from_All, All-from_recursion}
use Rattle.zs_tables.specs.declared.listener.ListenerRow.{ListenerRow}
use Rattle.zs_tables.specs.declared.recount.Recount.{Recount}
use Rattle.zs_subscriptions.specs.Ascending.{Ascend}
use Rattle.zs_tables.specs.declared.listener.Listener.{Listener}
use Rattle.zs_tables.specs.Matching.{Candidate, candidates, count_of, AreCounted, recounts, recounted}
use Rattle.zs_tables.specs.MatchingLaws.{Moves}
use Rattle.zs_subscriptions.proofs.Ascending.{all_map, all_unmap, all_filter}
use Rattle.zs_keyed.proofs.Ascending.{by_test}
use Rattle.zs_tables.proofs.Moving.{current, listeners_stay}
use Rattle.zs_tables.specs.RemoteEntities.{RemoteEntities}
use Rattle.zs_subscriptions.specs.declared.subscriber.SubRow.{SubRow}
use Rattle.zs_tables.specs.declared.queryable.QueryableRow.{QueryableRow}
use Rattle.zs_entity_tables.specs.MatchingTables.{Kept, shown}
use Rattle.zs_entity_tables.proofs.Bounds.{rows_push as bounds_push}

-- the numbers stay
pub below_recounted : (next : ℕ) (rs : List Recount) (ls : List Listener) → All (λ (l : Listener). l.row.id < next) ls → All (λ (l : Listener). l.row.id < next) (recounted rs ls)
below_recounted next rs ls all =
    let rows : AllByRecursion (λ (row : ListenerRow). row.id < next) (map (λ (l : Listener). l.row) ls) =
    all_map (λ (l : Listener). l.row.id < next) (λ (row : ListenerRow). row.id < next) (λ (l : Listener). l.row) (λ l less. less) ls (recursion_from_All (λ (l : Listener). l.row.id < next) ls all) in
    let same : AllByRecursion (λ (row : ListenerRow). row.id < next) (map (λ (l : Listener). l.row) (recounted rs ls)) = rw (listeners_stay rs ls) rows in
    All-from_recursion (λ (l : Listener). l.row.id < next) (recounted rs ls) (all_unmap (λ (row : ListenerRow). row.id < next) (λ (l : Listener). l.row) (recounted rs ls) same)

-- those that are left have theirs
pub below_left : (next : ℕ) (keep : Listener → Bool) (ls : List Listener) → All (λ (l : Listener). l.row.id < next) ls → All (λ (l : Listener). l.row.id < next) (filter keep ls)
below_left next keep ls all =
    All-from_recursion (λ (l : Listener). l.row.id < next) (filter keep ls)
    (all_filter (λ (l : Listener). l.row.id < next) keep ls (recursion_from_All (λ (l : Listener). l.row.id < next) ls all))

-- and the counts are those of all who are there then
pub counted_then : (goes comes : Option Candidate) (old new : List Candidate) (ls : List Listener) {rs : List Recount} → rs ≡ recounts goes comes ls → Ascend (λ (l : Listener). l.row.id) ls
    → Moves goes comes old new → AreCounted old ls → AreCounted new (recounted rs ls)
counted_then goes comes old new ls is up m all = rw is (current goes comes old new ls up m all)

-- a listener is found by its number, with its count or without it
pub any_row : (id : ℕ) (ls : List Listener) → list_any (λ (row : ListenerRow). row.id == id) (map (λ (l : Listener). l.row) ls) ≡ list_any (λ (l : Listener). l.row.id == id) ls
any_row id [] = refl
any_row id (l ∷ ls) = ap (λ (b : Bool). l.row.id == id || b) (any_row id ls)

-- all have numbers below that of a new one
pub rows_under : (next id : ℕ) (ls : List Listener) → id ≡ next → All (λ (l : Listener). l.row.id < next) ls → AllByRecursion (λ (row : ListenerRow). row.id < id) (map (λ (l : Listener). l.row) ls)
rows_under next id ls is all =
    rw is
    (all_map (λ (l : Listener). l.row.id < next) (λ (row : ListenerRow). row.id < next) (λ (l : Listener). l.row) (λ l less. less) ls (recursion_from_All (λ (l : Listener). l.row.id < next) ls all))

-- where the told ones change and then the counts are set, the numbers stay
pub below_told : (next : ℕ) (told : RemoteEntities) (rs : List Recount) (kept changed set : Kept) → changed ≡ record kept { remote_entities = told } → set ≡ record changed { listeners = recounted rs changed.listeners }
    → All (λ (l : Listener). l.row.id < next) kept.listeners → All (λ (l : Listener). l.row.id < next) set.listeners
below_told next told rs kept changed set is then all = rw (then, is) (below_recounted next rs kept.listeners all)

-- and the counts are those of all who are there then
pub counted_told : (subs : List SubRow) (queryables : List QueryableRow) (told : RemoteEntities) (goes comes : Option Candidate) (rs : List Recount) (kept changed set : Kept)
    → changed ≡ record kept { remote_entities = told } → set ≡ record changed { listeners = recounted rs changed.listeners } → rs ≡ recounts goes comes kept.listeners → Ascend (λ (l : Listener). l.row.id) kept.listeners
    → Moves goes comes (candidates subs queryables kept.remote_entities) (candidates subs queryables told) → AreCounted (candidates subs queryables kept.remote_entities) kept.listeners
    → AreCounted (candidates subs queryables set.remote_entities) set.listeners
counted_told subs queryables told goes comes rs kept changed set is then all up m counted =
    rw (then, is) (counted_then goes comes (candidates subs queryables kept.remote_entities) (candidates subs queryables told) kept.listeners all up m counted)

-- what follows from what holds of an accepted call
pub ok_then : {T E : Type 0} (r : Result T E) (P Q : Type 0) → (P → Q) → OnOk r P → OnOk r Q
ok_then (Ok t) P Q f h = f h
ok_then (Err e) P Q f h = tt

-- where subscribers or queryables change and the counts are set
pub counted_moved : (subs subs' : List SubRow) (queryables queryables' : List QueryableRow) (goes comes : Option Candidate) (rs : List Recount) (kept set : Kept)
    → set ≡ record kept { listeners = recounted rs kept.listeners } → rs ≡ recounts goes comes kept.listeners → Ascend (λ (l : Listener). l.row.id) kept.listeners
    → Moves goes comes (candidates subs queryables kept.remote_entities) (candidates subs' queryables' kept.remote_entities) → AreCounted (candidates subs queryables kept.remote_entities) kept.listeners
    → AreCounted (candidates subs' queryables' set.remote_entities) set.listeners
counted_moved subs subs' queryables queryables' goes comes rs kept set then all up m counted =
    rw then (counted_then goes comes (candidates subs queryables kept.remote_entities) (candidates subs' queryables' kept.remote_entities) kept.listeners all up m counted)

-- the numbers stay then
pub below_set : (next : ℕ) (rs : List Recount) (kept set : Kept) → set ≡ record kept { listeners = recounted rs kept.listeners } → All (λ (l : Listener). l.row.id < next) kept.listeners
    → All (λ (l : Listener). l.row.id < next) set.listeners
below_set next rs kept set then all = rw then (below_recounted next rs kept.listeners all)

-- what is shown where the counts are set, one comes, or some go
pub rows_set : (kept : Kept) (rs : List Recount) → shown (record kept { listeners = recounted rs kept.listeners }) ≡ shown kept
rows_set kept rs = λ i. record { listeners = listeners_stay rs kept.listeners i; left = kept.left; remote_entities = kept.remote_entities }

rows_push : (ls : List Listener) (l : Listener) → map (λ (k : Listener). k.row) (ls ++ l ∷ []) ≡ map (λ (k : Listener). k.row) ls ++ l.row ∷ []
rows_push [] l = refl
rows_push (k ∷ ls) l = ap (λ (rest : List ListenerRow). k.row ∷ rest) (rows_push ls l)

pub rows_more : (kept : Kept) (l : Listener) → shown (record kept { listeners = kept.listeners ++ l ∷ [] }) ≡ record (shown kept) { listeners = (shown kept).listeners ++ l.row ∷ [] }
rows_more kept l = λ i. record { listeners = rows_push kept.listeners l i; left = kept.left; remote_entities = kept.remote_entities }

rows_filter : (keep : ListenerRow → Bool) (ls : List Listener) → map (λ (k : Listener). k.row) (filter (λ (k : Listener). keep k.row) ls) ≡ filter keep (map (λ (k : Listener). k.row) ls)
rows_filter keep [] = refl
rows_filter keep (k ∷ ls) =
    by_test (keep k.row) (λ is. rw is (ap (λ (rest : List ListenerRow). k.row ∷ rest) (rows_filter keep ls))) (λ is. rw is (rows_filter keep ls))

pub rows_left : (kept : Kept) (keep : ListenerRow → Bool) → shown (record kept { listeners = filter (λ (k : Listener). keep k.row) kept.listeners }) ≡ record (shown kept) { listeners = filter keep (shown kept).listeners }
rows_left kept keep = λ i. record { listeners = rows_filter keep kept.listeners i; left = kept.left; remote_entities = kept.remote_entities }

-- where one comes
counted_push : (cs : List Candidate) (ls : List Listener) (l : Listener) → l.count ≡ count_of cs l.row → AreCounted cs ls → AreCounted cs (ls ++ l ∷ [])
counted_push cs [] l is all = (is, tt)
counted_push cs (k ∷ ls) l is all = (all.0, counted_push cs ls l is all.1)

pub counted_added : (subs : List SubRow) (queryables : List QueryableRow) (l : Listener) (kept added : Kept) → added ≡ record kept { listeners = kept.listeners ++ l ∷ [] }
    → l.count ≡ count_of (candidates subs queryables kept.remote_entities) l.row → AreCounted (candidates subs queryables kept.remote_entities) kept.listeners → AreCounted (candidates subs queryables added.remote_entities) added.listeners
counted_added subs queryables l kept added then is all = rw then (counted_push (candidates subs queryables kept.remote_entities) kept.listeners l is all)

pub below_added : (next : ℕ) (l : Listener) (kept added : Kept) → added ≡ record kept { listeners = kept.listeners ++ l ∷ [] } → l.row.id ≡ next → All (λ (k : Listener). k.row.id < next) kept.listeners
    → All (λ (k : Listener). k.row.id < next + 1) added.listeners
below_added next l kept added then id all = rw then (bounds_push (λ (k : Listener). k.row.id) next kept.listeners l id all)

-- where some end
pub counted_fewer : (subs : List SubRow) (queryables : List QueryableRow) (keep : Listener → Bool) (kept fewer : Kept) → fewer ≡ record kept { listeners = filter keep kept.listeners }
    → AreCounted (candidates subs queryables kept.remote_entities) kept.listeners → AreCounted (candidates subs queryables fewer.remote_entities) fewer.listeners
counted_fewer subs queryables keep kept fewer then all =
    rw then (all_filter (λ (l : Listener). l.count ≡ count_of (candidates subs queryables kept.remote_entities) l.row) keep kept.listeners all)

pub below_fewer : (next : ℕ) (keep : Listener → Bool) (kept fewer : Kept) → fewer ≡ record kept { listeners = filter keep kept.listeners } → All (λ (l : Listener). l.row.id < next) kept.listeners
    → All (λ (l : Listener). l.row.id < next) fewer.listeners
below_fewer next keep kept fewer then all = rw then (below_left next keep kept.listeners all)
