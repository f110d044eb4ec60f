-- What a session tells of a publisher's or querier's matching.
use Rattle.std.specs.Prelude.{◌≡◌, ◌==◌, ℕ, Bool, not, Some, false}
use Rattle.zs_books.specs.Callers.{CallerSeen}
use Rattle.zs_events.specs.declared.entity_kind.ParentKind.{ParentKind}
use Rattle.zs_events.specs.declared.event.Event.TheVariants.{Status}
use Rattle.zs_core.specs.Types.{Settings}
use Rattle.zs_held.specs.Receipts.{ReceiptSeen}
use Rattle.zs_cell.specs.Steps.{Accepts}

-- the session was asked for it, and answered a number: 0 exactly where no one matches
pub record Tells (s : Settings) (evicts : Bool) (old new : CallerSeen ReceiptSeen) (parent : ParentKind) (id : ℕ) (matching : Bool) : Type 0 where
  pub number : ℕ
  pub accepts : Accepts s evicts old new (Status parent id) false (Some number)
  pub matching_is : matching ≡ not (number == 0)
