-- The items that wait behind a full queue, and what reads of the lent queues come to.
use Rattle.std.specs.Prelude.{◌≡◌, ◌<◌, ◌≤◌, ◌+◌, ℕ, ◌&&◌, Bool, true, false, List, [], ◌∷◌, length, Option, Some, None, Result, Ok, Err}
use Rattle.zs_handlers.specs.Queue.{Queue}
use Rattle.zs_handlers.specs.declared.error.Disconnected.{Disconnected}
use Rattle.zs_handlers.specs.declared.error.RingDeleted.{RingDeleted}
use Rattle.zs_events.specs.declared.received.Received.{Received}
use Rattle.zs_events.specs.declared.received.Received.TheVariants as answer

module _ {T : Type 0} where
  -- whether nothing waits
  abbrev pub is_nothing : List T → Bool
  is_nothing [] = true
  is_nothing (item ∷ waiting) = false

  -- what waits does so since there are as many as there can be
  abbrev pub AreBehind : List T → ℕ → ℕ → Type 0
  AreBehind [] len capacity = Unit {0}
  AreBehind (item ∷ waiting) len capacity = len ≡ capacity

  -- items wait where the queue is full alone, and the queue has ended where the callback has and nothing waits
  pub record Waits (q : Queue T) (waiting : List T) (ended : Bool) : Type 0 where
    pub room : 0 < q.capacity
    pub full : AreBehind waiting (length q.items) q.capacity
    pub over : q.ended ≡ (ended && is_nothing waiting)

  -- the same where one item was taken out of the queue, and none has followed
  pub record WaitsForOne (q : Queue T) (waiting : List T) (ended : Bool) : Type 0 where
    pub room : 0 < q.capacity
    pub full : AreBehind waiting (length q.items + 1) q.capacity
    pub over : q.ended ≡ (ended && is_nothing waiting)

  -- a ring holds what it can, and nothing behind its end
  pub record IsRing (q : Queue T) : Type 0 where
    pub fits : length q.items ≤ q.capacity
    pub gone : q.ended ≡ true → q.items ≡ []

  -- what a read of a lent queue comes to
  abbrev pub fifo_answer : Result (Option T) Disconnected → Received T
  fifo_answer (Ok (Some item)) = answer.Item item
  fifo_answer (Ok None) = answer.Empty
  fifo_answer (Err why) = answer.Disconnected

  abbrev pub ring_answer : Result (Option T) RingDeleted → Received T
  ring_answer (Ok (Some item)) = answer.Item item
  ring_answer (Ok None) = answer.Empty
  ring_answer (Err why) = answer.Deleted
