-- Where the lines are spelled with characters, so is all that either side takes and sends.
use Rattle.std.proofs.Common.{List, [], ◌∷◌, ◌++◌, Bool, true, false, Option, Some, None}
use Rattle.std.specs.Prelude.{if◌then◌else◌}
use Rattle.std.specs.List.{AllByRecursion}
use Rattle.std.specs.Option.{IfSome}
use Rattle.zs_wire.specs.declared.message.Message.{Message}
use Rattle.zs_wire.specs.declared.message.Message.TheVariants.{DeclareKeyExpr, DeclareSubscriber, DeclareQueryable, DeclareToken, UndeclareToken, Push as push_message, Request as request_message, Response as response_message}
use Rattle.zs_wire.specs.declared.response.Answered.{Answered}
use Rattle.zs_wire.specs.declared.response.Answered.TheVariants.{Reply, Err as Error}
use Rattle.zs_wire.specs.declared.wire_expr.WireExpr.{WireExpr}
use Rattle.zs_events.specs.declared.event.Event.{Event}
use Rattle.zs_events.specs.declared.event.Event.TheVariants.{Net}
use Rattle.zs_events.specs.Kinds.{NoKey, WireKey, wire_key, is_blank, response_key}
use Rattle.zs_core.specs.Types.{Settings}
use Rattle.zs_core.specs.Received.{wire_in, AreSpelled}
use Rattle.zs_laws.specs.Spelled.{IsSent, IsSpelled, IsSpelledName, AllSpelled, SentKeysAreSpelled}
use Rattle.zs_delivery.specs.declared.side.LinkSide.TheVariants.{A, B}
use Rattle.zs_delivery.specs.Linked.{Side, LinkLine, Take, Deliver, other, sent_at, is_event, with_event, with_oldest, taken_out, without_oldest, linked_after}
use Rattle.zs_delivery.specs.Links.{AreSpelledLines}

abbrev pub HasSpelledKey : Message → Type 0
HasSpelledKey m = IfSome (wire_in m) IsSent

-- all that a side took, and what of it waits
pub record AreSpelledAt (side : Side) : Type 0 where
  pub history : AllSpelled side.history
  pub waiting : AllByRecursion HasSpelledKey side.waiting

pub record BothSpelled (first second : Side) : Type 0 where
  pub a : AreSpelledAt first
  pub b : AreSpelledAt second

pub all_behind : (xs ys : List Message) → AllByRecursion HasSpelledKey xs → AllByRecursion HasSpelledKey ys → AllByRecursion HasSpelledKey (xs ++ ys)
all_behind [] ys first second = second
all_behind (m ∷ xs) ys first second = (first.0, all_behind xs ys first.1 second)

-- a message with a spelled key is a spelled event
pub spelled_wire : (wire : Option WireExpr) → IfSome wire IsSent → IsSpelledName (wire_key wire)
spelled_wire None sent_so = tt
spelled_wire (Some wire) sent_so = go (is_blank wire)
  where
    go : (b : Bool) → IsSpelledName (if b then NoKey else WireKey wire)
    go true = tt
    go false = sent_so.spelled

pub spelled_response : (answered : Answered) (wire : WireExpr) → IsSent wire → IsSpelledName (response_key answered wire)
spelled_response (Reply body) wire sent_so = sent_so.spelled
spelled_response (Error value) wire sent_so = tt

pub spelled_message : (m : Message) → HasSpelledKey m → IsSpelled (Net m)
spelled_message (DeclareKeyExpr number wire) sent_so = sent_so.spelled
spelled_message (DeclareSubscriber id wire) sent_so = sent_so.spelled
spelled_message (DeclareQueryable id complete wire) sent_so = sent_so.spelled
spelled_message (DeclareToken id wire interest) sent_so = sent_so.spelled
spelled_message (UndeclareToken id wire interest) sent_so = spelled_wire wire sent_so
spelled_message (push_message push) sent_so = sent_so.spelled
spelled_message (request_message request) sent_so = sent_so.spelled
spelled_message (response_message response) sent_so = spelled_response response.answered response.wire sent_so
spelled_message m sent_so = tt

module _ (keys : SentKeysAreSpelled) (s : Settings) (aggregates : AreSpelled s) where
  pub sent_spelled : (h : List Event) (e : Event) → AllSpelled (e ∷ h) → AllByRecursion HasSpelledKey (sent_at s h e)
  unfolding sent_at
  sent_spelled h e all = keys s h e aggregates all

  pub spelled_event : (e : Event) (side : Side) → IsSpelled e → AreSpelledAt side → AreSpelledAt (with_event s e side)
  spelled_event e side own all = record {
    history = (own, all.history);
    waiting = all_behind side.waiting (sent_at s side.history e) all.waiting (sent_spelled side.history e (own, all.history));
  }

  pub spelled_given : (ms : List Message) (side : Side) → AllByRecursion HasSpelledKey ms → AreSpelledAt side → AreSpelledAt (with_oldest s ms side)
  spelled_given [] side given_so all = all
  spelled_given (m ∷ later) side given_so all = go (is_event m)
    where
      go : (b : Bool) → AreSpelledAt (if b then with_event s (Net m) side else side)
      go true = spelled_event (Net m) side (spelled_message m given_so.0) all
      go false = all

pub spelled_rest : (side : Side) → AreSpelledAt side → AreSpelledAt (taken_out side)
spelled_rest side all = record { history = all.history; waiting = go side.waiting all.waiting }
  where
    go : (ms : List Message) → AllByRecursion HasSpelledKey ms → AllByRecursion HasSpelledKey (without_oldest ms)
    go [] so = so
    go (m ∷ later) so = so.1

pub spelled_after : SentKeysAreSpelled → (s : Settings) → AreSpelled s → (h : List LinkLine) → AreSpelledLines h → BothSpelled (linked_after s h).a (linked_after s h).b
spelled_after keys s aggregates [] lines = record { a = record { history = tt; waiting = tt }; b = record { history = tt; waiting = tt } }
spelled_after keys s aggregates (Take A e ∷ h) lines =
    let w = linked_after s h in
    let before : BothSpelled w.a w.b = spelled_after keys s aggregates h lines.1 in
    record { a = spelled_event keys s aggregates e w.a lines.0 before.a; b = before.b }
spelled_after keys s aggregates (Take B e ∷ h) lines =
    let w = linked_after s h in
    let before : BothSpelled w.a w.b = spelled_after keys s aggregates h lines.1 in
    record { a = before.a; b = spelled_event keys (other s) aggregates e w.b lines.0 before.b }
spelled_after keys s aggregates (Deliver A ∷ h) lines =
    let w = linked_after s h in
    let before : BothSpelled w.a w.b = spelled_after keys s aggregates h lines.1 in
    record { a = spelled_rest w.a before.a; b = spelled_given keys (other s) aggregates w.a.waiting w.b before.a.waiting before.b }
spelled_after keys s aggregates (Deliver B ∷ h) lines =
    let w = linked_after s h in
    let before : BothSpelled w.a w.b = spelled_after keys s aggregates h lines.1 in
    record { a = spelled_given keys s aggregates w.b.waiting w.a before.b.waiting before.a; b = spelled_rest w.b before.b }
