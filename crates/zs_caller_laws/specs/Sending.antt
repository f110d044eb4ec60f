-- What a caller counts of the messages that its events send.
use Rattle.std.specs.Prelude.{◌+◌, ◌≤◌, Bool, Option, length}
use Rattle.zs_events.specs.declared.event.Event.{Event}
use Rattle.zs_events.specs.declared.turn.Answer.{Answer}
use Rattle.zs_core.specs.Types.{Settings}
use Rattle.zs_books.specs.Callers.{CallerSeen}
use Rattle.zs_held.specs.declared.asked.Asked.{Asked}
use Rattle.zs_held.specs.Receipts.{ReceiptSeen}
use Rattle.zs_cell.specs.Steps.{Takes, TakesAndFinishes}

-- an event that a session took sends one message at most, and each query that is given back with it one more
pub record StepsSendOne : Type 0 where
  pub event : {s : Settings} {old new : CallerSeen ReceiptSeen} {e : Event} {came : Bool} {answer : Answer} {asked : Option Asked} → Takes s old e came answer asked new → new.sent ≤ old.sent + 1
  pub call : {s : Settings} {old new : CallerSeen ReceiptSeen} {e : Event} {came evicts : Bool} {answer : Answer} {asked : Option Asked} (steps : TakesAndFinishes s evicts old e came answer asked new)
      → new.sent ≤ old.sent + 1 + length steps.values
