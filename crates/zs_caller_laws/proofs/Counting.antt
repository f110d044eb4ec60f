-- What callers count of messages.
use Rattle.std.proofs.Common.{◌≡◌, ℕ, ◌+◌, ◌≤◌, Bool, List, [], ◌∷◌, length, Option, refl, ap, sym, subst, arith}
use Rattle.std.specs.List.{flat_map}
use Rattle.zs_wire.specs.declared.message.Message.{Message}
use Rattle.zs_events.specs.declared.event.Event.{Event}
use Rattle.zs_events.specs.declared.event.Event.TheVariants.{Finish}
use Rattle.zs_events.specs.declared.turn.Answer.{Answer}
use Rattle.zs_events.specs.declared.turn.Effect.{Effect}
use Rattle.zs_events.specs.declared.turn.Effect.TheVariants.{Send, Hand, End, Matching}
use Rattle.zs_events.specs.declared.turn.Turn.{Turn}
use Rattle.zs_core.specs.Types.{Settings}
use Rattle.zs_model.specs.Received.{messages_of}
use Rattle.zs_standing.specs.Laws.{OneMessageAtMost}
use Rattle.zs_exchange.specs.Exchange.{sent_by}
use Rattle.zs_session_cell.specs.Core.{turn_at}
use Rattle.zs_books.specs.Callers.{CallerSeen}
use Rattle.zs_held.specs.declared.asked.Asked.{Asked}
use Rattle.zs_held.specs.Messages.{turn_messages}
use Rattle.zs_held.specs.Receipts.{ReceiptSeen}
use Rattle.zs_model.specs.Effects.{effects}
use Rattle.zs_cell.specs.Further.{Adds, AddsFinishes}
use Rattle.zs_cell.specs.Steps.{Takes, TakesAndFinishes}
use Rattle.zs_caller_laws.specs.Sending.{StepsSendOne}

same_messages : (fx : List Effect) → flat_map sent_by fx ≡ messages_of fx
same_messages [] = refl
same_messages (Send message ∷ fx) = ap (λ (more : List Message). message ∷ more) (same_messages fx)
same_messages (Hand item ∷ fx) = same_messages fx
same_messages (End kind id ∷ fx) = same_messages fx
same_messages (Matching id matching ∷ fx) = same_messages fx

turn_sends_one : OneMessageAtMost → (s : Settings) (h : List Event) (e : Event) → length (turn_messages (turn_at s h e)) ≤ 1
unfolding turn_at
turn_sends_one law s h e = subst (λ (messages : List Message). length messages ≤ 1) (sym (same_messages (effects s h e).effects)) (law s h e)

sends_one : OneMessageAtMost → (s : Settings) (h : List Event) (e : Event) (turn : Turn) → turn ≡ turn_at s h e → length (turn_messages turn) ≤ 1
sends_one law s h e turn is = subst (λ (t : Turn). length (turn_messages t) ≤ 1) (sym is) (turn_sends_one law s h e)

takes_one : OneMessageAtMost → {s : Settings} {old new : CallerSeen ReceiptSeen} {e : Event} {came : Bool} {answer : Answer} {asked : Option Asked} → Takes s old e came answer asked new → new.sent ≤ old.sent + 1
takes_one law {s} {old} {new} {e} takes =
    let took = takes.took in
    omega (arith, sends_one law s took.before e takes.turn took.turn_is, ap (λ (c : CallerSeen ReceiptSeen). c.sent) took.caller_is)

adds_one : OneMessageAtMost → (s : Settings) (e : Event) (old new : CallerSeen ReceiptSeen) → Adds s e old new → new.sent ≤ old.sent + 1
adds_one law s e old new adds =
    omega (arith, sends_one law s adds.before e adds.turn adds.turn_is, ap (λ (c : CallerSeen ReceiptSeen). c.sent) adds.caller_is)

adds_all : OneMessageAtMost → (s : Settings) (values : List ℕ) (old new : CallerSeen ReceiptSeen) → AddsFinishes s values old new → new.sent ≤ old.sent + length values
adds_all law s [] old new same = omega (arith, ap (λ (c : CallerSeen ReceiptSeen). c.sent) same)
adds_all law s (value ∷ values) old new (mid, (adds, rest)) = omega (arith, adds_one law s (Finish value) old mid adds, adds_all law s values mid new rest)

steps_one : OneMessageAtMost → {s : Settings} {old new : CallerSeen ReceiptSeen} {e : Event} {came evicts : Bool} {answer : Answer} {asked : Option Asked} (steps : TakesAndFinishes s evicts old e came answer asked new)
    → new.sent ≤ old.sent + 1 + length steps.values
steps_one law {s} {old} {new} steps = omega (arith, takes_one law steps.takes, adds_all law s steps.values steps.taken new steps.finishes)

pub steps_send_one : OneMessageAtMost → StepsSendOne
steps_send_one law = record { event = λ takes. takes_one law takes; call = λ steps. steps_one law steps }
