-- Both ways of a link keep the order, behind every schedule.
use Rattle.std.proofs.Common.{◌≡◌, List, [], ◌∷◌, ◌++◌, Bool, true, false, refl, sym, ◌∙◌, ap, cond}
use Rattle.std.specs.Prelude.{filter, if◌then◌else◌}
use Rattle.zs_wire.specs.declared.message.Message.{Message}
use Rattle.zs_events.specs.declared.event.Event.{Event}
use Rattle.zs_events.specs.declared.event.Event.TheVariants.{Net}
use Rattle.zs_core.specs.Types.{Settings}
use Rattle.zs_core.specs.Received.{sent, sent_behind}
use Rattle.zs_delivery.specs.declared.side.LinkSide.TheVariants.{A, B}
use Rattle.zs_delivery.specs.Linked.{Side, LinkLine, Take, Deliver, other, sent_at, is_event, with_event, with_message, with_oldest, taken_out, without_oldest, linked_after}
use Rattle.zs_delivery.specs.Links.{is_net, AreOwn, given, Way, Ways}

pub sent_behind_append : (xs ys before : List Message) → sent_behind (xs ++ ys) before ≡ sent_behind ys (sent_behind xs before)
sent_behind_append [] ys before = refl
sent_behind_append (m ∷ xs) ys before = sent_behind_append xs ys (m ∷ before)

pub sent_more : (s : Settings) (h : List Event) (e : Event) → sent s (e ∷ h) ≡ sent_behind (sent_at s h e) (sent s h)
unfolding sent_at
sent_more s h e = refl

-- what the sender sends waits behind the rest
pub way_from : (s : Settings) (from : Side) (to : List Event) (e : Event) → Way s from to → Way s (with_event s e from) to
way_from s from to e way = record {
  delivered = way.delivered;
  sent_is =
      sent_more s from.history e
      ∙ ap (sent_behind (sent_at s from.history e)) way.sent_is
      ∙ sym (sent_behind_append from.waiting (sent_at s from.history e) way.delivered);
  given_is = way.given_is;
}

-- an event of the receiver's application is not given by the network
pub own_gives_nothing : (e : Event) (h : List Event) → is_net e ≡ false → given (e ∷ h) ≡ given h
own_gives_nothing (Net message) h own = cc
own_gives_nothing e h own = refl

pub way_to : (s : Settings) (from : Side) (to : List Event) (e : Event) → is_net e ≡ false → Way s from to → Way s from (e ∷ to)
way_to s from to e own way = record { delivered = way.delivered; sent_is = way.sent_is; given_is = own_gives_nothing e to own ∙ way.given_is }

-- whoever is given a message sends what that makes it send
pub way_given : (s : Settings) (from : Side) (to : List Event) (ms : List Message) → Way s from to → Way s (with_oldest s ms from) to
way_given s from to [] way = way
way_given s from to (m ∷ later) way = go (is_event m)
  where
    go : (b : Bool) → Way s (if b then with_event s (Net m) from else from) to
    go true = way_from s from to (Net m) way
    go false = way

-- what is given is the message, unless it is an interest
pub given_with : (t : Settings) (m : Message) (to : Side) (before : List Message) → given to.history ≡ filter is_event before
    → given (with_message t m to).history ≡ filter is_event (m ∷ before)
given_with t m to before is = go (is_event m)
  where
    go : (b : Bool) → given (if b then with_event t (Net m) to else to).history ≡ cond b (m ∷ filter is_event before) (filter is_event before)
    go true = ap (λ (ms : List Message). m ∷ ms) is
    go false = is

-- the oldest message goes over
pub way_delivered : (s t : Settings) (from to : Side) → Way s from to.history → Way s (taken_out from) (with_oldest t from.waiting to).history
way_delivered s t from to way = go from.waiting refl
  where
    go : (ms : List Message) → from.waiting ≡ ms → Way s (record { history = from.history; waiting = without_oldest ms }) (with_oldest t ms to).history
    go [] is = record { delivered = way.delivered; sent_is = way.sent_is ∙ ap (λ (xs : List Message). sent_behind xs way.delivered) is; given_is = way.given_is }
    go (m ∷ later) is = record {
      delivered = m ∷ way.delivered;
      sent_is = way.sent_is ∙ ap (λ (xs : List Message). sent_behind xs way.delivered) is;
      given_is = given_with t m to way.delivered way.given_is;
    }

pub ways_after : (s : Settings) (h : List LinkLine) → AreOwn h → Ways s (linked_after s h).a (linked_after s h).b
ways_after s [] own = record {
  forth = record { delivered = []; sent_is = refl; given_is = refl };
  back = record { delivered = []; sent_is = refl; given_is = refl };
}
ways_after s (Take A e ∷ h) own =
    let w = linked_after s h in
    let before : Ways s w.a w.b = ways_after s h own.1 in
    record { forth = way_from s w.a w.b.history e before.forth; back = way_to (other s) w.b w.a.history e own.0 before.back }
ways_after s (Take B e ∷ h) own =
    let w = linked_after s h in
    let before : Ways s w.a w.b = ways_after s h own.1 in
    record { forth = way_to s w.a w.b.history e own.0 before.forth; back = way_from (other s) w.b w.a.history e before.back }
ways_after s (Deliver A ∷ h) own =
    let w = linked_after s h in
    let before : Ways s w.a w.b = ways_after s h own.1 in
    record { forth = way_delivered s (other s) w.a w.b before.forth; back = way_given (other s) w.b w.a.history w.a.waiting before.back }
ways_after s (Deliver B ∷ h) own =
    let w = linked_after s h in
    let before : Ways s w.a w.b = ways_after s h own.1 in
    record { forth = way_given s w.a w.b.history w.b.waiting before.forth; back = way_delivered (other s) s w.b w.a before.back }
