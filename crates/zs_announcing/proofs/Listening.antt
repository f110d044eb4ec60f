-- What sessions make of events about what is listened to, where it is there and where it is not.
use Rattle.std.proofs.Common.{◌≡◌, ◌<◌, ◌≤◌, ◌-◌, ℕ, Bool, true, false, List, [], ◌∷◌, Option, Some, None, refl, sym, ap, ◌∙◌, arith}
use Rattle.std.proofs.lemmas.Bool.Decides.{nat_tests}
use Rattle.std.specs.Prelude.{◌==◌, ◌&&◌, ◌||◌, is_some, if◌then◌else◌}
use Rattle.zs_tables.specs.declared.listener.ListenerRow.{ListenerRow}
use Rattle.zs_tables.specs.Matching.{status}
use Rattle.zs_subscriptions.proofs.ByKey.{found_any}
use Rattle.zs_events.specs.declared.entity_kind.ParentKind.{ParentKind}
use Rattle.zs_events.specs.declared.entity_kind.ParentKind.TheVariants.{Pub, Querier}
use Rattle.zs_events.specs.declared.event.Event.TheVariants.{Listen, Status}
use Rattle.zs_events.specs.declared.turn.Refusal.TheVariants.{NotFound, IdsExhausted}
use Rattle.zs_events.specs.Kinds.{parent_kind_of}
use Rattle.zs_world.specs.declared.change.Change.TheVariants.{Nothing, OfEntities}
use Rattle.zs_world.specs.declared.change.EntityChange.TheVariants.{Add as AddEntity}
use Rattle.zs_world.specs.declared.change.EntityRow.TheVariants.{Listener as new_listener}
use Rattle.zs_model.specs.declared.publisher.PubRow.{PubRow}
use Rattle.zs_model.specs.declared.querier.QuerierRow.{QuerierRow}
use Rattle.zs_model.specs.Settings.{last_entity}
use Rattle.zs_model.specs.Counters.{is_spent}
use Rattle.zs_world.specs.World.{World, present_at}
use Rattle.zs_model.specs.Publishers.{is_pub, pub_at}
use Rattle.zs_model.specs.Queriers.{is_querier, querier_at}
use Rattle.zs_model.specs.Listeners.{on_pub, on_querier, listening}
use Rattle.zs_model.specs.Matching.{as_number}
use Rattle.zs_world.specs.Decisions.{finds, decision_of, open_decision}

-- whether there is one
abbrev is_one : List ListenerRow → Bool
is_one [] = false
is_one (row ∷ rows) = true

one_on_pub : (number : ℕ) (o : Option PubRow) → is_one (on_pub number o) ≡ is_some o
one_on_pub number None = refl
one_on_pub number (Some row) = refl

one_on_querier : (number : ℕ) (o : Option QuerierRow) → is_one (on_querier number o) ≡ is_some o
one_on_querier number None = refl
one_on_querier number (Some row) = refl

and_true : (b : Bool) → (b && true) ≡ b
and_true true = refl
and_true false = refl

or_false : (b : Bool) → (b || false) ≡ b
or_false true = refl
or_false false = refl

-- what is named is there where there is something to listen to
lives_is : (w : World) (parent : ParentKind) (id number : ℕ)
    → finds w (Some (record { kind = parent_kind_of parent; id = id })) ≡ is_one (listening w.entities.pubs w.entities.queriers number (parent_kind_of parent) id)
lives_is w Pub id number =
    and_true (is_pub id w.entities.pubs) ∙ sym (found_any (λ (row : PubRow). row.id == id) w.entities.pubs) ∙ sym (one_on_pub number (pub_at id w.entities.pubs))
lives_is w Querier id number =
    and_true (is_querier id w.entities.queriers) ∙ sym (found_any (λ (row : QuerierRow). row.id == id) w.entities.queriers)
    ∙ sym (one_on_querier number (querier_at id w.entities.queriers))

pub listen_missing : (w : World) (parent : ParentKind) (id number : ℕ) → listening w.entities.pubs w.entities.queriers number (parent_kind_of parent) id ≡ []
    → open_decision w (Listen parent id) ≡ decision_of (Some NotFound) None [] Nothing
listen_missing w parent id number none =
    let lives : finds w (Some (record { kind = parent_kind_of parent; id = id })) ≡ false = lives_is w parent id number ∙ ap is_one none in
    rw lives refl

pub status_missing : (w : World) (parent : ParentKind) (id number : ℕ) → listening w.entities.pubs w.entities.queriers number (parent_kind_of parent) id ≡ []
    → open_decision w (Status parent id) ≡ decision_of (Some NotFound) None [] Nothing
status_missing w parent id number none =
    let lives : finds w (Some (record { kind = parent_kind_of parent; id = id })) ≡ false = lives_is w parent id number ∙ ap is_one none in
    rw lives refl

pub listen_there : (w : World) (parent : ParentKind) (id : ℕ) (row : ListenerRow) → listening w.entities.pubs w.entities.queriers w.counters.entity (parent_kind_of parent) id ≡ row ∷ []
    → is_spent last_entity w.counters.entity ≡ false
    → open_decision w (Listen parent id) ≡ decision_of None (Some w.counters.entity) [] (OfEntities (AddEntity (new_listener row)))
listen_there w parent id row there left =
    let lives : finds w (Some (record { kind = parent_kind_of parent; id = id })) ≡ true = lives_is w parent id w.counters.entity ∙ ap is_one there in
    rw (lives, left, there) refl

pub listen_spent : (w : World) (parent : ParentKind) (id : ℕ) (row : ListenerRow) → listening w.entities.pubs w.entities.queriers w.counters.entity (parent_kind_of parent) id ≡ row ∷ []
    → is_spent last_entity w.counters.entity ≡ true
    → open_decision w (Listen parent id) ≡ decision_of (Some IdsExhausted) None [] Nothing
listen_spent w parent id row there spent =
    let lives : finds w (Some (record { kind = parent_kind_of parent; id = id })) ≡ true = lives_is w parent id w.counters.entity ∙ ap is_one there in
    rw (lives, spent) refl

pub status_there : (w : World) (parent : ParentKind) (id : ℕ) (row : ListenerRow) → listening w.entities.pubs w.entities.queriers 0 (parent_kind_of parent) id ≡ row ∷ []
    → open_decision w (Status parent id) ≡ decision_of None (Some (as_number (status (present_at w) row))) [] Nothing
status_there w parent id row there =
    let lives : finds w (Some (record { kind = parent_kind_of parent; id = id })) ≡ true = lives_is w parent id 0 ∙ ap is_one there in
    rw (lives, there, or_false (status (present_at w) row)) refl

-- a counter that has run out, and one that has not
pub spent_is : (last n next : ℕ) → n ≡ next → last - n < 1 → is_spent last next ≡ true
spent_is last n next is less = grind (arith, nat_tests, is, less)

pub unspent_is : (last n next : ℕ) → n ≡ next → 1 ≤ last - n → is_spent last next ≡ false
unspent_is last n next is more = grind (arith, nat_tests, is, more)
