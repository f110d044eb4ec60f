-- What an accepted event says of matching, its change says too.
use Rattle.std.proofs.Common.{◌≡◌, ℕ, Bool, true, false, List, [], ◌∷◌, ◌++◌, Option, Some, None, refl, sym, ap, subst, ◌∙◌, arith}
use Rattle.std.specs.Prelude.{◌==◌, not, filter, is_none}
use Rattle.zs_wire.specs.declared.wire_expr.WireExpr.{WireExpr}
use Rattle.zs_wire.specs.declared.message.Message.TheVariants.{DeclareSubscriber, UndeclareSubscriber, DeclareQueryable, UndeclareQueryable}
use Rattle.zs_tables.specs.declared.listener.ListenerRow.{ListenerRow}
use Rattle.zs_events.specs.declared.event.Event.{Event}
use Rattle.zs_events.specs.declared.event.Event.TheVariants.{Listen, Undeclare, Background, Close, Net}
use Rattle.zs_events.specs.declared.entity_kind.EntityKind.TheVariants.{Pub as pub_sort, Querier as querier_sort, Listener as listener_sort}
use Rattle.zs_events.specs.declared.entity_kind.BackgroundKind.TheVariants.{Listener as background_listener}
use Rattle.zs_events.specs.declared.entity_kind.ParentKind.{ParentKind}
use Rattle.zs_events.specs.declared.entity_kind.ParentKind.TheVariants.{Pub as pub_parent, Querier as querier_parent}
use Rattle.zs_events.specs.Kinds.{ToMatching, NoMatch, parent_kind_of, row_of}
use Rattle.zs_model.specs.declared.publisher.PubRow.{PubRow}
use Rattle.zs_model.specs.declared.querier.QuerierRow.{QuerierRow}
use Rattle.zs_world.specs.declared.change.Change.{Change}
use Rattle.zs_entity_tables.specs.MatchingTables.{Matching}
use Rattle.zs_world.specs.MatchingChanges.{listen_change, remote_subscriber_change, remote_queryable_change}
use Rattle.zs_model.specs.Publishers.{pub_at}
use Rattle.zs_model.specs.Queriers.{querier_at}
use Rattle.zs_model.specs.Listeners.{listening, listener_row, ends_listener, on_pub, on_querier}
use Rattle.zs_model.specs.Live.{appended, ends}
use Rattle.zs_world.specs.World.{World}
use Rattle.zs_model.specs.Entry.{Entry}
use Rattle.zs_world.specs.Keys.{wire_of}
use Rattle.zs_world.specs.Changes.{change_for, with_change}
use Rattle.zs_world.specs.Decisions.{open_cause, sight}
use Rattle.zs_standing.proofs.Saying.{passed, IsMade, touches_matching}
use Rattle.zs_standing.proofs.Decisions.{entry_for}
use Rattle.zs_standing.proofs.Matched.{SaysMatching, HasText, remote_subscribers_behind, remote_queryables_behind}
use Rattle.zs_events.specs.declared.turn.Kind.TheVariants.{Publisher, Querier}
use Rattle.zs_world.specs.declared.change.Change.TheVariants.{OfEntities, OfMatching, Shut}
use Rattle.zs_world.specs.declared.change.EntityChange.TheVariants.{Add as AddEntity, End as EndEntity, Leave as LeaveEntity}
use Rattle.zs_world.specs.declared.change.EntityRow.TheVariants.{Listener as new_listener}
use Rattle.std.proofs.lemmas.Bool.Decides.{nat_tests}

-- no listener ends, and all do
kept_all : (rows : List ListenerRow) → rows ≡ filter (λ (row : ListenerRow). not false) rows
kept_all [] = refl
kept_all (row ∷ rows) = ap (λ (rest : List ListenerRow). row ∷ rest) (kept_all rows)

none_left : (rows : List ListenerRow) → [] ≡ filter (λ (row : ListenerRow). not true) rows
none_left [] = refl
none_left (row ∷ rows) = none_left rows

-- an event that is nothing to matching, and a change that leaves it
quiet : (w : World) (x : Entry) (c : Change) → (with_change c w).matching ≡ w.matching → ((row : ListenerRow) → ends_listener x.event row ≡ false)
    → listener_row w.entities.pubs w.entities.queriers x.event x.number ≡ [] → (row_of x.event).to_matching ≡ NoMatch → SaysMatching w x c
quiet w x c same none nobody plain =
    let rows = w.matching.listeners in
    let to : NoMatch ≡ (row_of x.event).to_matching = sym plain in
    let nothing : [] ≡ listener_row w.entities.pubs w.entities.queriers x.event x.number = sym nobody in
    record {
      listeners =
          ap (λ (m : Matching). m.listeners) same ∙ kept_all rows
          ∙ (λ i. appended (filter (λ (row : ListenerRow). not (sym (none row) i)) rows) (nothing i));
      subs = ap (λ (m : Matching). m.remote_entities.subs) same ∙ ap (λ (t : ToMatching). remote_subscribers_behind t x.text w.matching.remote_entities.subs) to;
      queryables = ap (λ (m : Matching). m.remote_entities.queryables) same ∙ ap (λ (t : ToMatching). remote_queryables_behind t x.text w.matching.remote_entities.queryables) to;
      text = subst (λ (t : ToMatching). HasText t x.text) to tt;
    }

-- the change of an event that neither ends what is listened to nor touches matching leaves it
same_number : (n : ℕ) → (n == n) ≡ true
same_number n = grind (arith, nat_tests)

still : (w : World) (x : Entry) (c : Change) → IsMade w x c → ((id : ℕ) → ends Publisher id x.event ≡ false) → ((id : ℕ) → ends Querier id x.event ≡ false) → touches_matching x ≡ false
    → (with_change c w).matching ≡ w.matching
still w x (OfEntities (EndEntity pub_sort id)) m pubs queriers apart = let no : true ≡ false = sym (same_number id) ∙ sym (m.entities.pubs.ended id) ∙ pubs id in cc
still w x (OfEntities (EndEntity querier_sort id)) m pubs queriers apart = let no : true ≡ false = sym (same_number id) ∙ sym (m.entities.queriers.ended id) ∙ queriers id in cc
still w x Shut m pubs queriers apart = let no : true ≡ false = sym (m.entities.pubs.ended 0) ∙ pubs 0 in cc
still w x (OfEntities (AddEntity (new_listener row))) m pubs queriers apart = let no : true ≡ false = sym m.matching ∙ apart in cc
still w x (OfEntities (EndEntity listener_sort id)) m pubs queriers apart = let no : true ≡ false = sym m.matching ∙ apart in cc
still w x (OfEntities (LeaveEntity background_listener id)) m pubs queriers apart = let no : true ≡ false = sym m.matching ∙ apart in cc
still w x (OfMatching change) m pubs queriers apart = let no : true ≡ false = sym m.matching ∙ apart in cc
still w x c m pubs queriers apart = refl

-- what the network tells has a text
remote_subscriber_says : (w : World) (id : ℕ) (wire : WireExpr) (text : Option (List ℕ)) → is_none text ≡ false
    → SaysMatching w (record { number = None; text = text; event = Net (DeclareSubscriber id wire) }) (remote_subscriber_change id text)
remote_subscriber_says w id wire None some = cc
remote_subscriber_says w id wire (Some text) some = record { listeners = kept_all w.matching.listeners; subs = refl; queryables = refl; text = refl }

remote_queryable_says : (w : World) (id : ℕ) (complete : Bool) (wire : WireExpr) (text : Option (List ℕ)) → is_none text ≡ false
    → SaysMatching w (record { number = None; text = text; event = Net (DeclareQueryable id complete wire) }) (remote_queryable_change id complete text)
remote_queryable_says w id complete wire None some = cc
remote_queryable_says w id complete wire (Some text) some = record { listeners = kept_all w.matching.listeners; subs = refl; queryables = refl; text = refl }

-- one listener at most is declared
abbrev IsOneAtMost : List ListenerRow → Type 0
IsOneAtMost (row ∷ more) = more ≡ []
IsOneAtMost [] = Unit {0}

one_at_most : (pubs : List PubRow) (queriers : List QuerierRow) (number : ℕ) (parent : ParentKind) (id : ℕ) → IsOneAtMost (listening pubs queriers number (parent_kind_of parent) id)
one_at_most pubs queriers number pub_parent id = go (pub_at id pubs)
  where
    go : (o : Option PubRow) → IsOneAtMost (on_pub number o)
    go None = tt
    go (Some row) = refl
one_at_most pubs queriers number querier_parent id = go (querier_at id queriers)
  where
    go : (o : Option QuerierRow) → IsOneAtMost (on_querier number o)
    go None = tt
    go (Some row) = refl

listen_says : (w : World) (parent : ParentKind) (id : ℕ) (rows : List ListenerRow) → listening w.entities.pubs w.entities.queriers w.counters.entity (parent_kind_of parent) id ≡ rows → IsOneAtMost rows
    → SaysMatching w (record { number = Some w.counters.entity; text = None; event = Listen parent id }) (listen_change rows)
listen_says w parent id [] is one = record {
  listeners =
      kept_all w.matching.listeners ∙ ap (λ (new : List ListenerRow). appended (filter (λ (row : ListenerRow). not false) w.matching.listeners) new) (sym is);
  subs = refl;
  queryables = refl;
  text = tt;
}
listen_says w parent id (row ∷ more) is one = record {
  listeners =
      ap (λ (rows : List ListenerRow). rows ++ row ∷ []) (kept_all w.matching.listeners)
      ∙ ap (λ (new : List ListenerRow). appended (filter (λ (row : ListenerRow). not false) w.matching.listeners) new) (ap (λ (rest : List ListenerRow). row ∷ rest) (sym one) ∙ sym is);
  subs = refl;
  queryables = refl;
  text = tt;
}

pub matching_made : (w : World) (e : Event) → IsMade w (entry_for w e) (change_for w e) → open_cause w e ≡ None → SaysMatching w (entry_for w e) (change_for w e)
matching_made w (Undeclare listener_sort id) m c = record { listeners = refl; subs = refl; queryables = refl; text = tt }
matching_made w (Undeclare pub_sort id) m c = record { listeners = refl; subs = refl; queryables = refl; text = tt }
matching_made w (Undeclare querier_sort id) m c = record { listeners = refl; subs = refl; queryables = refl; text = tt }
matching_made w (Background background_listener id) m c = record { listeners = kept_all w.matching.listeners; subs = refl; queryables = refl; text = tt }
matching_made w Close m c = record { listeners = none_left w.matching.listeners; subs = refl; queryables = refl; text = tt }
matching_made w (Net (DeclareSubscriber id wire)) m c =
    remote_subscriber_says w id wire (wire_of w wire) (passed (row_of (Net (DeclareSubscriber id wire))) (sight w (Net (DeclareSubscriber id wire))) c).known
matching_made w (Net (DeclareQueryable id complete wire)) m c =
    remote_queryable_says w id complete wire (wire_of w wire) (passed (row_of (Net (DeclareQueryable id complete wire))) (sight w (Net (DeclareQueryable id complete wire))) c).known
matching_made w (Net (UndeclareSubscriber id)) m c = record { listeners = kept_all w.matching.listeners; subs = refl; queryables = refl; text = tt }
matching_made w (Net (UndeclareQueryable id)) m c = record { listeners = kept_all w.matching.listeners; subs = refl; queryables = refl; text = tt }
matching_made w (Listen parent id) m c =
    listen_says w parent id (listening w.entities.pubs w.entities.queriers w.counters.entity (parent_kind_of parent) id) refl
    (one_at_most w.entities.pubs w.entities.queriers w.counters.entity parent id)
matching_made w e m c =
    quiet w (entry_for w e) (change_for w e) (still w (entry_for w e) (change_for w e) m (λ id. refl) (λ id. refl) refl) (λ row. refl) refl refl
