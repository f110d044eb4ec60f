-- What a call that steps a session makes of its caller.
use Rattle.std.specs.Prelude.{◌≡◌, ℕ, Bool, false, List, [], length, Option, Some, None, is_some, if◌then◌else◌}
use Rattle.zs_events.specs.declared.event.Event.{Event}
use Rattle.zs_events.specs.declared.turn.Answer.{Answer}
use Rattle.zs_events.specs.declared.turn.Answer.TheVariants.{Ok as accepted, Refused as refused}
use Rattle.zs_events.specs.declared.turn.Turn.{Turn}
use Rattle.zs_events.specs.Turn.{was_refused}
use Rattle.zs_core.specs.Types.{Settings}
use Rattle.zs_session_cell.specs.Core.{turn_at}
use Rattle.zs_posts.specs.declared.key.Key.{Key}
use Rattle.zs_books.specs.Callers.{CallerSeen}
use Rattle.zs_held.specs.declared.asked.Asked.{Asked}
use Rattle.zs_held.specs.Held.{entered, receipt_of}
use Rattle.zs_held.specs.Numbers.{numbered_at}
use Rattle.zs_held.specs.Receipts.{ReceiptSeen, asked_of}
use Rattle.zs_cell.specs.declared.error.SessionError.{SessionError}
use Rattle.zs_cell.specs.declared.error.SessionError.TheVariants.{Refused, OtherSession, NoMemory}
use Rattle.zs_cell.specs.Further.{AddsFinishes, asks_queryables}

-- the session of those settings took the event, which came with a handler or not, and made this turn of it, that of the event behind those
-- that it had taken before: the caller counts one event more, with the messages of its turn, and has the receipt for it, which says which
-- gate the session was asked for in the same hold of its lock, if it was asked for one, and whether it still held it
pub record Took (s : Settings) (old : CallerSeen ReceiptSeen) (event : Event) (came : Bool) (turn : Turn) (asked : Option Asked) (new : CallerSeen ReceiptSeen) : Type 0 where
  pub before : List Event
  pub turn_is : turn ≡ turn_at s before event
  pub caller_is : new ≡ record (entered turn old) { last = Some (record (receipt_of event came turn (length before) old.count) { asked = asked }) }

-- the same, by what the event was answered
pub record Takes (s : Settings) (old : CallerSeen ReceiptSeen) (event : Event) (came : Bool) (answer : Answer) (asked : Option Asked) (new : CallerSeen ReceiptSeen) : Type 0 where
  pub turn : Turn
  pub answer_is : turn.answer ≡ answer
  pub took : Took s old event came turn asked new

-- and then gave back queries that came back from handlers, each by one event more: none, where the type of the handlers, which gives up
-- items or not, gives up none, and the event asks no queryables
pub record TakesAndFinishes (s : Settings) (evicts : Bool) (old : CallerSeen ReceiptSeen) (event : Event) (came : Bool) (answer : Answer) (asked : Option Asked) (new : CallerSeen ReceiptSeen) : Type 0 where
  pub taken : CallerSeen ReceiptSeen
  pub takes : Takes s old event came answer asked taken
  pub values : List ℕ
  pub none_come_back : evicts ≡ false → asks_queryables event ≡ false → values ≡ []
  pub finishes : AddsFinishes s values taken new

-- an accepted event is answered a number exactly where its kind draws one, or asks for a status
abbrev pub IsNumbered : Event → Answer → Type 0
IsNumbered event (accepted number) = is_some number ≡ numbered_at event
IsNumbered event (refused refusal) = Unit {0}

-- a refused event is told so, with the same refusal
abbrev pub IsRefusal : Answer → SessionError → Type 0
IsRefusal answer (Refused refusal) = answer ≡ refused refusal
IsRefusal answer NoMemory = ⊥
IsRefusal answer OtherSession = ⊥

-- the gate of a key that a session is asked for with an event: none where the event is refused
abbrev pub asked_for : Answer → Option Key → Bool → Option Asked
asked_for answer key held = if was_refused answer then None else asked_of key held

-- the session took the event and accepted it, with that number, and was asked for no gate
abbrev pub Accepts : Settings → Bool → CallerSeen ReceiptSeen → CallerSeen ReceiptSeen → Event → Bool → Option ℕ → Type 0
Accepts s evicts old new event came number = TakesAndFinishes s evicts old event came (accepted number) None new

-- the same where it was asked for the gate of that key, if there is one, and still held it or not
abbrev pub AcceptsFor : Settings → Bool → CallerSeen ReceiptSeen → CallerSeen ReceiptSeen → Event → Bool → Option ℕ → Option Key → Bool → Type 0
AcceptsFor s evicts old new event came number key held = TakesAndFinishes s evicts old event came (accepted number) (asked_of key held) new

-- the same of an event without a handler and a number, whether or not the session still held the gate
pub record AcceptsAsking (s : Settings) (evicts : Bool) (old new : CallerSeen ReceiptSeen) (event : Event) (key : Key) : Type 0 where
  pub held : Bool
  pub accepts : AcceptsFor s evicts old new event false None (Some key) held

-- the session took the event and refused it, and was asked for no gate, or, where the call says another reason, didn't take it
abbrev pub Stops : Settings → Bool → CallerSeen ReceiptSeen → CallerSeen ReceiptSeen → Event → Bool → SessionError → Type 0
Stops s evicts old new event came (Refused refusal) = TakesAndFinishes s evicts old event came (refused refusal) None new
Stops s evicts old new event came NoMemory = new ≡ old
Stops s evicts old new event came OtherSession = ⊥

-- the same where the call may also be handed another session's value: then nothing was stepped either
abbrev pub StopsOr : Settings → Bool → CallerSeen ReceiptSeen → CallerSeen ReceiptSeen → Event → Bool → SessionError → Type 0
StopsOr s evicts old new event came (Refused refusal) = TakesAndFinishes s evicts old event came (refused refusal) None new
StopsOr s evicts old new event came NoMemory = new ≡ old
StopsOr s evicts old new event came OtherSession = new ≡ old
