-- What stands of each get behind the steps of two linked sessions.
use Rattle.std.proofs.Common.{◌≡◌, ℕ, List, [], ◌∷◌, ◌++◌, Bool, true, false, Option, Some, None, refl, sym, ◌∙◌, ap}
use Rattle.std.specs.Prelude.{◌==◌, if◌then◌else◌}
use Rattle.zs_wire.specs.declared.message.Message.{Message}
use Rattle.zs_wire.specs.declared.message.Message.TheVariants.{DeclareSubscriber, DeclareQueryable, Push, Request as request_message, Response as response_message, ResponseFinal}
use Rattle.zs_wire.specs.declared.origin.Timestamp.{Timestamp}
use Rattle.zs_sample.specs.declared.sample_fields.SampleFields.{SampleFields}
use Rattle.zs_events.specs.declared.event.Event.{Event}
use Rattle.zs_events.specs.declared.event.Event.TheVariants.{Net}
use Rattle.zs_events.specs.declared.turn.Effect.{Effect}
use Rattle.zs_events.specs.declared.turn.Effect.TheVariants.{Send, Hand, End, Matching}
use Rattle.zs_events.specs.declared.turn.HandOver.TheVariants.{Sample as sample_for, Reply as reply_for, Query as query_for}
use Rattle.zs_events.specs.declared.turn.Kind.TheVariants.{Subscriber}
use Rattle.zs_model.specs.declared.settings.Settings.{Settings}
use Rattle.zs_model.specs.Effects.{effects}
use Rattle.zs_delivery.specs.declared.side.LinkSide.{LinkSide}
use Rattle.zs_delivery.specs.declared.side.LinkSide.TheVariants.{A, B}
use Rattle.zs_delivery.specs.Linked.{Side, Linked, LinkLine, Take, Deliver, other, is_event, with_event, with_oldest, without_oldest, linked_after}
use Rattle.zs_keeping.specs.Keeping.{write_at, with_timed, with_sample, with_effects}
use Rattle.zs_keeping.specs.Answering.{answers_to}
use Rattle.zs_store.specs.Store.{Write, KeysAscend}
use Rattle.zs_store.proofs.Stores.{ascend_nothing, ascend_merged}
use Rattle.zs_replicas.specs.Replicas.{keeper, effects_at, stored}
use Rattle.zs_replica_gets.specs.Steps.{Moves, answerer, settings_of, side_of, opposite, store_at, brought, all_taken, all_brought, answers, behind, brought_by, oldest_event, with_step, step_effects}
use Rattle.zs_replica_gets.specs.Asked.{answer_at}
use Rattle.zs_replica_gets.proofs.Runs.{run, run_effects}
use Rattle.zs_replica_gets.proofs.Blocks.{block, block_effects}
use Rattle.zs_replica_gets.proofs.Talk.{IsKnown}
use Rattle.zs_replica_gets.proofs.Moving.{side_with}

-- a store's keys ascend
ascend_timed : (time : Option Timestamp) (sample : SampleFields) (store : List Write) → KeysAscend store → KeysAscend (with_timed time sample store)
ascend_timed None sample store up = up
ascend_timed (Some time) sample store up = ascend_merged (write_at time sample) store up

ascend_effects : (id : ℕ) (fx : List Effect) (store : List Write) → KeysAscend store → KeysAscend (with_effects id fx store)
ascend_effects id [] store up = up
ascend_effects id (Send message ∷ fx) store up = ascend_effects id fx store up
ascend_effects id (End kind number ∷ fx) store up = ascend_effects id fx store up
ascend_effects id (Matching number matching ∷ fx) store up = ascend_effects id fx store up
ascend_effects id (Hand (reply_for kind number reply) ∷ fx) store up = ascend_effects id fx store up
ascend_effects id (Hand (query_for number value query) ∷ fx) store up = ascend_effects id fx store up
ascend_effects id (Hand (sample_for Subscriber number sample) ∷ fx) store up = ascend_effects id fx (if number == id then with_sample sample store else store) (go (number == id))
  where
    go : (b : Bool) → KeysAscend (if b then with_sample sample store else store)
    go true = ascend_timed sample.timestamp sample store up
    go false = up
ascend_effects id (Hand (sample_for kind number sample) ∷ fx) store up = ascend_effects id fx store up

ascend_stored : (s : Settings) (h : List Event) → KeysAscend (stored s h)
ascend_stored s [] = ascend_nothing
ascend_stored s (e ∷ h) = ascend_effects keeper (effects_at s h e) (stored s h) (ascend_stored s h)

pub ascend_at : (s : Settings) (side : LinkSide) (links : List LinkLine) → KeysAscend (store_at s side links)
ascend_at s side links = ascend_stored (settings_of side s) (side_of side (linked_after s links)).history

pub same_answer : (s : Settings) (side : LinkSide) (e : Event) (links : List LinkLine) → answer_at s side e links ≡ (effects (settings_of side s) (side_of side (linked_after s links)).history e).answer
unfolding answer_at
same_answer s side e links = refl

-- both sides behind events of one
taken_a : (s : Settings) (es : List Event) (links : List LinkLine) → linked_after s (all_taken A es links) ≡ record { a = run s es (linked_after s links).a; b = (linked_after s links).b }
taken_a s [] links = refl
taken_a s (e ∷ es) links = taken_a s es (Take A e ∷ links)

taken_b : (s : Settings) (es : List Event) (links : List LinkLine) → linked_after s (all_taken B es links) ≡ record { a = (linked_after s links).a; b = run (other s) es (linked_after s links).b }
taken_b s [] links = refl
taken_b s (e ∷ es) links = taken_b s es (Take B e ∷ links)

brought_a : (s : Settings) (es : List Event) (links : List LinkLine) → all_brought s A es links ≡ run_effects s es (linked_after s links).a.history
brought_a s [] links = refl
brought_a s (e ∷ es) links = ap (λ (fx : List Effect). effects_at s (linked_after s links).a.history e ++ fx) (brought_a s es (Take A e ∷ links))

brought_b : (s : Settings) (es : List Event) (links : List LinkLine) → all_brought s B es links ≡ run_effects (other s) es (linked_after s links).b.history
brought_b s [] links = refl
brought_b s (e ∷ es) links = ap (λ (fx : List Effect). effects_at (other s) (linked_after s links).b.history e ++ fx) (brought_b s es (Take B e ∷ links))

-- behind an event that a side takes by itself
pub took_side : (s : Settings) (side : LinkSide) (e : Event) (links : List LinkLine)
    → side_of side (linked_after s (behind s side (Some e) (Take side e) links)) ≡ block (settings_of side s) e (side_of side (linked_after s links))
took_side s A e links = ap (λ (w : Linked). w.a) (taken_a s (answers s A (brought s A e links) (Take A e ∷ links)) (Take A e ∷ links))
took_side s B e links = ap (λ (w : Linked). w.b) (taken_b s (answers s B (brought s B e links) (Take B e ∷ links)) (Take B e ∷ links))

pub took_other : (s : Settings) (side : LinkSide) (e : Event) (links : List LinkLine)
    → side_of (opposite side) (linked_after s (behind s side (Some e) (Take side e) links)) ≡ side_of (opposite side) (linked_after s links)
took_other s A e links = ap (λ (w : Linked). w.b) (taken_a s (answers s A (brought s A e links) (Take A e ∷ links)) (Take A e ∷ links))
took_other s B e links = ap (λ (w : Linked). w.a) (taken_b s (answers s B (brought s B e links) (Take B e ∷ links)) (Take B e ∷ links))

pub took_effects : (s : Settings) (side : LinkSide) (e : Event) (links : List LinkLine)
    → brought_by s side (Some e) (Take side e) links ≡ block_effects (settings_of side s) e (side_of side (linked_after s links))
took_effects s A e links =
    ap (λ (fx : List Effect). effects_at s (linked_after s links).a.history e ++ fx) (brought_a s (answers s A (brought s A e links) (Take A e ∷ links)) (Take A e ∷ links))
took_effects s B e links =
    ap (λ (fx : List Effect). effects_at (other s) (linked_after s links).b.history e ++ fx) (brought_b s (answers s B (brought s B e links) (Take B e ∷ links)) (Take B e ∷ links))

pub took_stored : (s : Settings) (side : LinkSide) (e : Event) (links : List LinkLine) → store_at s side (Take side e ∷ links) ≡ stored (settings_of side s) (e ∷ (side_of side (linked_after s links)).history)
took_stored s A e links = refl
took_stored s B e links = refl

-- a message of a store's session is an event
known_event : (m : Message) → IsKnown m → is_event m ≡ true
known_event (DeclareSubscriber id wire) known = refl
known_event (DeclareQueryable id complete wire) known = refl
known_event (Push push) known = refl
known_event (request_message r) known = refl
known_event (response_message r) known = refl
known_event (ResponseFinal rid) known = refl
known_event m known = absurd known

-- behind a delivery: the one that was given something, by these messages
abbrev given_side : Settings → List Message → Side → Side
given_side t waiting y = with_oldest t waiting y

abbrev moved_to : Settings → List Message → Option Event → Side → Side
moved_to t waiting None y = with_oldest t waiting y
moved_to t waiting (Some e) y = run t (answers_to answerer (stored t (with_oldest t waiting y).history) (effects_at t y.history e)) (with_oldest t waiting y)

abbrev moved_fx : Settings → List Message → Option Event → Side → List Effect
moved_fx t waiting None y = []
moved_fx t waiting (Some e) y =
    effects_at t y.history e ++ run_effects t (answers_to answerer (stored t (with_oldest t waiting y).history) (effects_at t y.history e)) (with_oldest t waiting y).history

moves_from : (s : Settings) (from : LinkSide) (o : Option Event) (links : List LinkLine)
    → side_of from (linked_after s (behind s (opposite from) o (Deliver from) links)) ≡ side_with (side_of from (linked_after s links)).history (without_oldest (side_of from (linked_after s links)).waiting)
moves_from s A None links = refl
moves_from s B None links = refl
moves_from s A (Some e) links = ap (λ (w : Linked). w.a) (taken_b s (answers s B (brought s B e links) (Deliver A ∷ links)) (Deliver A ∷ links))
moves_from s B (Some e) links = ap (λ (w : Linked). w.b) (taken_a s (answers s A (brought s A e links) (Deliver B ∷ links)) (Deliver B ∷ links))

moves_to : (s : Settings) (from : LinkSide) (o : Option Event) (links : List LinkLine)
    → side_of (opposite from) (linked_after s (behind s (opposite from) o (Deliver from) links))
    ≡ moved_to (settings_of (opposite from) s) (side_of from (linked_after s links)).waiting o (side_of (opposite from) (linked_after s links))
moves_to s A None links = refl
moves_to s B None links = refl
moves_to s A (Some e) links = ap (λ (w : Linked). w.b) (taken_b s (answers s B (brought s B e links) (Deliver A ∷ links)) (Deliver A ∷ links))
moves_to s B (Some e) links = ap (λ (w : Linked). w.a) (taken_a s (answers s A (brought s A e links) (Deliver B ∷ links)) (Deliver B ∷ links))

moves_effects : (s : Settings) (from : LinkSide) (o : Option Event) (links : List LinkLine)
    → brought_by s (opposite from) o (Deliver from) links
    ≡ moved_fx (settings_of (opposite from) s) (side_of from (linked_after s links)).waiting o (side_of (opposite from) (linked_after s links))
moves_effects s A None links = refl
moves_effects s B None links = refl
moves_effects s A (Some e) links =
    ap (λ (fx : List Effect). effects_at (other s) (linked_after s links).b.history e ++ fx) (brought_b s (answers s B (brought s B e links) (Deliver A ∷ links)) (Deliver A ∷ links))
moves_effects s B (Some e) links =
    ap (λ (fx : List Effect). effects_at s (linked_after s links).a.history e ++ fx) (brought_a s (answers s A (brought s A e links) (Deliver B ∷ links)) (Deliver B ∷ links))

moved_stored : (s : Settings) (from : LinkSide) (links : List LinkLine)
    → store_at s (opposite from) (Deliver from ∷ links)
    ≡ stored (settings_of (opposite from) s) (with_oldest (settings_of (opposite from) s) (side_of from (linked_after s links)).waiting (side_of (opposite from) (linked_after s links))).history
moved_stored s A links = refl
moved_stored s B links = refl

-- the same where the oldest message is an event
oldest_is : (m : Message) (later : List Message) (waiting : List Message) → waiting ≡ m ∷ later → IsKnown m → oldest_event waiting ≡ Some (Net m)
oldest_is m later waiting is known = ap oldest_event is ∙ ap (λ (b : Bool). if b then Some (Net m) else None) (known_event m known)

given_is : (t : Settings) (m : Message) (later waiting : List Message) (y : Side) → waiting ≡ m ∷ later → IsKnown m → with_oldest t waiting y ≡ with_event t (Net m) y
given_is t m later waiting y is known = ap (λ (ms : List Message). with_oldest t ms y) is ∙ ap (λ (b : Bool). if b then with_event t (Net m) y else y) (known_event m known)

pub record Moved (s : Settings) (from : LinkSide) (m : Message) (later : List Message) (links : List LinkLine) : Type 0 where
  pub left : side_of from (linked_after s (with_step s (Moves from) links)) ≡ side_with (side_of from (linked_after s links)).history later
  pub came : side_of (opposite from) (linked_after s (with_step s (Moves from) links)) ≡ block (settings_of (opposite from) s) (Net m) (side_of (opposite from) (linked_after s links))
  pub brings : step_effects s (Moves from) links ≡ block_effects (settings_of (opposite from) s) (Net m) (side_of (opposite from) (linked_after s links))
  pub store : store_at s (opposite from) (Deliver from ∷ links) ≡ stored (settings_of (opposite from) s) (Net m ∷ (side_of (opposite from) (linked_after s links)).history)

pub moved : (s : Settings) (from : LinkSide) (m : Message) (later : List Message) (links : List LinkLine) → (side_of from (linked_after s links)).waiting ≡ m ∷ later → IsKnown m → Moved s from m later links
moved s from m later links is known =
    let t = settings_of (opposite from) s in
    let y = side_of (opposite from) (linked_after s links) in
    let waiting = (side_of from (linked_after s links)).waiting in
    let event : oldest_event waiting ≡ Some (Net m) = oldest_is m later waiting is known in
    let given : with_oldest t waiting y ≡ with_event t (Net m) y = given_is t m later waiting y is known in
    record {
      left = moves_from s from (oldest_event waiting) links ∙ ap (λ (ms : List Message). side_with (side_of from (linked_after s links)).history (without_oldest ms)) is;
      came =
          moves_to s from (oldest_event waiting) links
          ∙ ap (λ (o : Option Event). moved_to t waiting o y) event
          ∙ ap (λ (x : Side). run t (answers_to answerer (stored t x.history) (effects_at t y.history (Net m))) x) given;
      brings =
          moves_effects s from (oldest_event waiting) links
          ∙ ap (λ (o : Option Event). moved_fx t waiting o y) event
          ∙ ap (λ (x : Side). effects_at t y.history (Net m) ++ run_effects t (answers_to answerer (stored t x.history) (effects_at t y.history (Net m))) x.history) given;
      store = moved_stored s from links ∙ ap (λ (x : Side). stored t x.history) given;
    }

-- and where none waits
pub record Unmoved (s : Settings) (from : LinkSide) (links : List LinkLine) : Type 0 where
  pub left : side_of from (linked_after s (with_step s (Moves from) links)) ≡ side_of from (linked_after s links)
  pub came : side_of (opposite from) (linked_after s (with_step s (Moves from) links)) ≡ side_of (opposite from) (linked_after s links)
  pub brings : step_effects s (Moves from) links ≡ []

pub unmoved : (s : Settings) (from : LinkSide) (links : List LinkLine) → (side_of from (linked_after s links)).waiting ≡ [] → Unmoved s from links
unmoved s from links is =
    let t = settings_of (opposite from) s in
    let x = side_of from (linked_after s links) in
    let y = side_of (opposite from) (linked_after s links) in
    record {
      left = moves_from s from (oldest_event x.waiting) links ∙ ap (λ (ms : List Message). side_with x.history (without_oldest ms)) is ∙ ap (λ (ms : List Message). side_with x.history ms) (sym is);
      came = moves_to s from (oldest_event x.waiting) links ∙ ap (λ (ms : List Message). moved_to t ms (oldest_event ms) y) is;
      brings = moves_effects s from (oldest_event x.waiting) links ∙ ap (λ (ms : List Message). moved_fx t ms (oldest_event ms) y) is;
    }
