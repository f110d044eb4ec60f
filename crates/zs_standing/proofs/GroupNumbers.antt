-- The groups are those of the live entities, each with the number of the first that joined it since it was last empty.
use Rattle.std.proofs.Common.{◌≡◌, ℕ, ◌<◌, List, [], ◌∷◌, ◌++◌, Bool, true, false, Option, Some, None, refl, sym, ◌∙◌, ap, cond}
use Rattle.std.specs.Prelude.{◌==◌, not, map, filter, option_map, if◌then◌else◌}
use Rattle.std.specs.List.{AllByRecursion, find}
use Rattle.std.proofs.lemmas.Bool.{eqb-true}
use Rattle.zs_keys.specs.Key.{Key}
use Rattle.zs_subscriptions.specs.Ascending.{Ascend}
use Rattle.zs_subscriptions.proofs.Ascending.{all_map}
use Rattle.zs_tables.specs.Groups.{Group, groups_of, number_of_group, members_of}
use Rattle.zs_tables.specs.Types.{GroupKind, Subscribers, Publishers, Queriers}
use Rattle.zs_subscriptions.specs.declared.subscriber.SubRow.{SubRow}
use Rattle.zs_model.specs.declared.publisher.PubRow.{PubRow}
use Rattle.zs_model.specs.declared.querier.QuerierRow.{QuerierRow}
use Rattle.zs_model.specs.declared.settings.Settings.{Settings}
use Rattle.zs_world.specs.declared.change.Change.{Change}
use Rattle.zs_world.specs.declared.change.Change.TheVariants.{Nothing, OfEntities, Shut}
use Rattle.zs_world.specs.declared.change.EntityChange.TheVariants.{Add as AddEntity, End as EndEntity}
use Rattle.zs_world.specs.declared.change.EntityRow.TheVariants.{Sub as new_sub, Pub as new_pub, Querier as new_querier}
use Rattle.zs_events.specs.declared.entity_kind.EntityKind.TheVariants.{Sub as sub_sort, Pub as pub_sort, Querier as querier_sort}
use Rattle.zs_world.specs.World.{World}
use Rattle.zs_model.specs.Entry.{Entry}
use Rattle.zs_model.specs.Groups.{Shared, sub_shared, pub_shared, querier_shared, left_found, sharing, group, group_number}
use Rattle.zs_world.specs.Changes.{Fits, with_change}
use Rattle.zs_model.proofs.Groups.{numbered, number_kept}
use Rattle.zs_model.proofs.Sharing.{AreGrouped, grouped_none, grouped_more, grouped_less, number_more, number_less, only_found}
use Rattle.zs_model.proofs.Entities.{table_ascends}
use Rattle.zs_standing.proofs.Saying.{IsMade, IsNumber}
use Rattle.zs_standing.proofs.Live.{AreLive}
use Rattle.zs_standing.proofs.Watching.{rows_below}

-- the groups are those of these tables
pub record AreShared (w : World) : Type 0 where
  pub subs : AreGrouped w.settings.aggregated_subscribers w.groups.subscribers (map sub_shared w.entities.subs)
  pub pubs : AreGrouped w.settings.aggregated_publishers w.groups.publishers (map pub_shared w.entities.pubs)
  pub queriers : AreGrouped [] w.groups.queriers (map querier_shared w.entities.queriers)

pub pushed : {R : Type 0} (shared : R → Shared) (rows : List R) (row : R) → map shared (rows ++ row ∷ []) ≡ map shared rows ++ shared row ∷ []
pushed shared [] row = refl
pushed shared (r ∷ rows) row = ap (λ (rest : List Shared). shared r ∷ rest) (pushed shared rows row)

pub left_out : {R : Type 0} (shared : R → Shared) (rows : List R) (id : ℕ) → map shared (filter (λ row. not ((shared row).id == id)) rows) ≡ filter (λ x. not (x.id == id)) (map shared rows)
left_out shared [] id = refl
left_out {R} shared (r ∷ rows) id = go (not ((shared r).id == id)) (left_out shared rows id)
  where
    keeps : List R
    keeps = filter (λ row. not ((shared row).id == id)) rows

    go : (b : Bool) → map shared keeps ≡ filter (λ x. not (x.id == id)) (map shared rows)
        → map shared (cond b (r ∷ keeps) keeps) ≡ cond b (shared r ∷ filter (λ x. not (x.id == id)) (map shared rows)) (filter (λ x. not (x.id == id)) (map shared rows))
    go true ih = ap (λ (rest : List Shared). shared r ∷ rest) ih
    go false ih = ih

found_id : {R : Type 0} (shared : R → Shared) (rows : List R) (row : R) (id : ℕ) → find (λ r. (shared r).id == id) rows ≡ Some row → (shared row).id ≡ id
found_id shared [] row id f = cc
found_id shared (q ∷ rows) row id f = go ((shared q).id == id) refl f (found_id shared rows row id)
  where
    go : (b : Bool) → ((shared q).id == id) ≡ b → (if b then Some q else find (λ r. (shared r).id == id) rows) ≡ Some row
        → (find (λ r. (shared r).id == id) rows ≡ Some row → (shared row).id ≡ id) → (shared row).id ≡ id
    go true t f ih = let same : q ≡ row = cc in ap (λ p. (shared p).id) (sym same) ∙ eqb-true (shared q).id id t
    go false t f ih = ih f

missing_same : {R : Type 0} (shared : R → Shared) (rows : List R) (id : ℕ) → find (λ r. (shared r).id == id) rows ≡ None → filter (λ row. not ((shared row).id == id)) rows ≡ rows
missing_same shared [] id f = refl
missing_same {R} shared (r ∷ rows) id f = go ((shared r).id == id) f (missing_same shared rows id)
  where
    keeps : List R
    keeps = filter (λ row. not ((shared row).id == id)) rows

    go : (b : Bool) → (if b then Some r else find (λ q. (shared q).id == id) rows) ≡ None → (find (λ q. (shared q).id == id) rows ≡ None → keeps ≡ rows)
        → cond (not b) (r ∷ keeps) keeps ≡ r ∷ rows
    go true f ih = cc
    go false f ih = ap (λ (rest : List R). r ∷ rest) (ih f)

-- one that is found by its number leaves
pub less_found : {R : Type 0} (shared : R → Shared) (aggregates : List Key) (gs : List Group) (rows : List R) (id : ℕ) → Ascend (λ r. (shared r).id) rows
    → AreGrouped aggregates gs (map shared rows)
    → AreGrouped aggregates (left_found aggregates (option_map shared (find (λ r. (shared r).id == id) rows)) gs) (map shared (filter (λ row. not ((shared row).id == id)) rows))
less_found {R} shared aggregates gs rows id up are = go (find (λ r. (shared r).id == id) rows) refl
  where
    go : (o : Option R) → find (λ r. (shared r).id == id) rows ≡ o
        → AreGrouped aggregates (left_found aggregates (option_map shared o) gs) (map shared (filter (λ row. not ((shared row).id == id)) rows))
    go None f = rw (missing_same shared rows id f) are
    go (Some row) f =
        let its : (shared row).id ≡ id = found_id shared rows row id f in
        rw (left_out shared rows id, ← its)
        (grouped_less aggregates gs (map shared rows) (shared row) (only_found shared rows row id up f) are)

-- what is below a number is so as groups see it
shared_below : {R : Type 0} (shared : R → Shared) (n : ℕ) (rows : List R) → AllByRecursion (λ row. (shared row).id < n) rows → AllByRecursion (λ x. x.id < n) (map shared rows)
shared_below shared n rows below = all_map (λ row. (shared row).id < n) (λ (x : Shared). x.id < n) shared (λ row less. less) rows below

-- an accepted event keeps them so: what is new has a number above all others
shared_step : (w : World) (past : List Entry) (c : Change) → Fits w c → AreLive w past → AreShared w → AreShared (with_change c w)
shared_step w past (OfEntities (AddEntity (new_sub row))) fits l are = record {
  subs = rw (pushed sub_shared w.entities.subs row)
      (grouped_more w.settings.aggregated_subscribers w.groups.subscribers (map sub_shared w.entities.subs) (sub_shared row)
      (shared_below sub_shared row.id w.entities.subs (rows_below _ _ _ _ _ _ row.id fits.0 l.subs)) are.subs);
  pubs = are.pubs;
  queriers = are.queriers;
}
shared_step w past (OfEntities (EndEntity sub_sort id)) fits l are = record {
  subs = less_found sub_shared w.settings.aggregated_subscribers w.groups.subscribers w.entities.subs id (table_ascends _ _ _ _ _ _ l.subs) are.subs;
  pubs = are.pubs;
  queriers = are.queriers;
}
shared_step w past (OfEntities (AddEntity (new_pub row))) fits l are = record {
  subs = are.subs;
  pubs = rw (pushed pub_shared w.entities.pubs row)
      (grouped_more w.settings.aggregated_publishers w.groups.publishers (map pub_shared w.entities.pubs) (pub_shared row)
      (shared_below pub_shared row.id w.entities.pubs (rows_below _ _ _ _ _ _ row.id fits.0 l.pubs)) are.pubs);
  queriers = are.queriers;
}
shared_step w past (OfEntities (EndEntity pub_sort id)) fits l are = record {
  subs = are.subs;
  pubs = less_found pub_shared w.settings.aggregated_publishers w.groups.publishers w.entities.pubs id (table_ascends _ _ _ _ _ _ l.pubs) are.pubs;
  queriers = are.queriers;
}
shared_step w past (OfEntities (AddEntity (new_querier row))) fits l are = record {
  subs = are.subs;
  pubs = are.pubs;
  queriers = rw (pushed querier_shared w.entities.queriers row)
      (grouped_more [] w.groups.queriers (map querier_shared w.entities.queriers) (querier_shared row)
      (shared_below querier_shared row.id w.entities.queriers (rows_below _ _ _ _ _ _ row.id fits.0 l.queriers)) are.queriers);
}
shared_step w past (OfEntities (EndEntity querier_sort id)) fits l are = record {
  subs = are.subs;
  pubs = are.pubs;
  queriers = less_found querier_shared [] w.groups.queriers w.entities.queriers id (table_ascends _ _ _ _ _ _ l.queriers) are.queriers;
}
shared_step w past Shut fits l are = record {
  subs = grouped_none w.settings.aggregated_subscribers;
  pubs = grouped_none w.settings.aggregated_publishers;
  queriers = grouped_none [];
}
shared_step w past Nothing fits l are = record { subs = are.subs; pubs = are.pubs; queriers = are.queriers }
shared_step w past c fits l are = record { subs = are.subs; pubs = are.pubs; queriers = are.queriers }

pub shared_more : (w : World) (past : List Entry) (c : Change) → Fits w c → AreLive w past → AreShared w → AreShared (with_change c w)
shared_more w past c fits l are = shared_step w past c fits l are

-- the members of a group are the live entities that share its text
pub members_are : (s : Settings) (w : World) (past : List Entry) (kind : GroupKind) (text : List ℕ) → w.settings ≡ s → AreLive w past → AreShared w
    → members_of text (groups_of kind w.groups) ≡ group s kind text past
members_are s w past Subscribers text same l are =
    are.subs.members text
    ∙ ap (λ (t : Settings). sharing t.aggregated_subscribers text (map sub_shared w.entities.subs)) same
    ∙ ap (λ (rows : List SubRow). sharing s.aggregated_subscribers text (map sub_shared rows)) l.subs.table
members_are s w past Publishers text same l are =
    are.pubs.members text
    ∙ ap (λ (t : Settings). sharing t.aggregated_publishers text (map pub_shared w.entities.pubs)) same
    ∙ ap (λ (rows : List PubRow). sharing s.aggregated_publishers text (map pub_shared rows)) l.pubs.table
members_are s w past Queriers text same l are =
    are.queriers.members text ∙ ap (λ (rows : List QuerierRow). sharing [] text (map querier_shared rows)) l.queriers.table

-- what an event makes of a group's number
number_found : (aggregates : List Key) (gs : List Group) (x : Option Shared) (text : List ℕ) (number : Option ℕ) (xs : List Shared) → AreGrouped aggregates gs xs
    → number_of_group text (left_found aggregates x gs) ≡ numbered (number_of_group text gs) number (members_of text (left_found aggregates x gs))
number_found aggregates gs None text number xs are = number_kept text gs number are.apart
number_found aggregates gs (Some x) text number xs are = number_less aggregates gs x text number are.apart

-- the groups of one kind are apart
kept_number : (w : World) (kind : GroupKind) (text : List ℕ) (number : Option ℕ) → AreShared w
    → number_of_group text (groups_of kind w.groups) ≡ numbered (number_of_group text (groups_of kind w.groups)) number (members_of text (groups_of kind w.groups))
kept_number w Subscribers text number are = number_kept text w.groups.subscribers number are.subs.apart
kept_number w Publishers text number are = number_kept text w.groups.publishers number are.pubs.apart
kept_number w Queriers text number are = number_kept text w.groups.queriers number are.queriers.apart

number_step : (w : World) (c : Change) (number : Option ℕ) (kind : GroupKind) (text : List ℕ) → IsNumber number c → AreShared w
    → number_of_group text (groups_of kind (with_change c w).groups)
    ≡ numbered (number_of_group text (groups_of kind w.groups)) number (members_of text (groups_of kind (with_change c w).groups))
number_step w (OfEntities (AddEntity (new_sub row))) number Subscribers text is are = rw is (number_more w.settings.aggregated_subscribers w.groups.subscribers (sub_shared row) text are.subs.apart)
number_step w (OfEntities (AddEntity (new_sub row))) number kind text is are = kept_number w kind text number are
number_step w (OfEntities (EndEntity sub_sort id)) number Subscribers text is are = number_found w.settings.aggregated_subscribers w.groups.subscribers _ text number _ are.subs
number_step w (OfEntities (EndEntity sub_sort id)) number kind text is are = kept_number w kind text number are
number_step w (OfEntities (AddEntity (new_pub row))) number Publishers text is are = rw is (number_more w.settings.aggregated_publishers w.groups.publishers (pub_shared row) text are.pubs.apart)
number_step w (OfEntities (AddEntity (new_pub row))) number kind text is are = kept_number w kind text number are
number_step w (OfEntities (EndEntity pub_sort id)) number Publishers text is are = number_found w.settings.aggregated_publishers w.groups.publishers _ text number _ are.pubs
number_step w (OfEntities (EndEntity pub_sort id)) number kind text is are = kept_number w kind text number are
number_step w (OfEntities (AddEntity (new_querier row))) number Queriers text is are = rw is (number_more [] w.groups.queriers (querier_shared row) text are.queriers.apart)
number_step w (OfEntities (AddEntity (new_querier row))) number kind text is are = kept_number w kind text number are
number_step w (OfEntities (EndEntity querier_sort id)) number Queriers text is are = number_found [] w.groups.queriers _ text number _ are.queriers
number_step w (OfEntities (EndEntity querier_sort id)) number kind text is are = kept_number w kind text number are
number_step w Shut number Subscribers text is are = refl
number_step w Shut number Publishers text is are = refl
number_step w Shut number Queriers text is are = refl
number_step w Nothing number kind text is are = kept_number w kind text number are
number_step w c number kind text is are = kept_number w kind text number are

-- so it is the one that the events tell
pub number_next : (s : Settings) (w : World) (past : List Entry) (x : Entry) (c : Change) (kind : GroupKind) (text : List ℕ) → IsMade w x c → AreShared w
    → number_of_group text (groups_of kind w.groups) ≡ group_number s kind text past
    → members_of text (groups_of kind (with_change c w).groups) ≡ group s kind text (x ∷ past)
    → number_of_group text (groups_of kind (with_change c w).groups) ≡ group_number s kind text (x ∷ past)
number_next s w past x c kind text m are before members =
    number_step w c x.number kind text m.entities.number are
    ∙ ap (λ (b : Option ℕ). numbered b x.number (members_of text (groups_of kind (with_change c w).groups))) before
    ∙ ap (numbered (group_number s kind text past) x.number) members
