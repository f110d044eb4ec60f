-- Runs of a fifo: calls in turn, each with what its contract says of it. A list of calls has the newest first.
use Rattle.std.specs.Prelude.{◌≡◌, ℕ, true, false, List, [], ◌∷◌, ◌++◌, drop, slice_get, Some}
use Rattle.zs_handlers.specs.Queue.{Queue, queue}

-- a call of a fifo, with its answer
pub data Call (T : Type 0) : Type 0 where
  -- `try_push` of the item answered Ok
  push : T → Call T
  -- `try_recv` gave the item
  receive : T → Call T
  -- `end`
  end : Call T
  -- a push that handed its item back, a receive that gave none, a reading
  nothing : Call T

module _ {T : Type 0} where
  -- the call may lead from the first queue to the second
  abbrev pub Step : Queue T → Call T → Queue T → Type 0
  Step old (push x) new = new ≡ record old { items = old.items ++ x ∷ [] }
  Step old (receive x) new = (Some x ≡ slice_get old.items 0) × (new ≡ record old { items = drop 1 old.items })
  Step old end new = new ≡ record old { ended = true }
  Step old nothing new = new ≡ old

  -- the calls may lead from a new fifo of capacity n to the queue
  abbrev pub Leads : ℕ → List (Call T) → Queue T → Type 0
  Leads n [] q = q ≡ queue [] n false
  Leads n (call ∷ calls) q = (before : Queue T) × Leads n calls before × Step before call q

  -- the items that were pushed, in order
  abbrev pub pushed_items : List (Call T) → List T
  pushed_items [] = []
  pushed_items (push x ∷ calls) = pushed_items calls ++ x ∷ []
  pushed_items (_ ∷ calls) = pushed_items calls

  -- the items that were received, in order
  abbrev pub received_items : List (Call T) → List T
  received_items [] = []
  received_items (receive x ∷ calls) = received_items calls ++ x ∷ []
  received_items (_ ∷ calls) = received_items calls
