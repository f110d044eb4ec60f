-- What became of an item that a handler was given.
use Rattle.std.specs.Prelude.{⊤, Option, Some, None}
use Rattle.zs_handlers.specs.declared.handler.Handled.{Handled}
use Rattle.zs_handlers.specs.declared.handler.Handled.TheVariants.{Taken, Evicted}

module _ {T D : Type 0} where
  -- the handler has the item
  abbrev pub IsTaken : Handled T D → Type 0
  IsTaken (Taken _) = ⊤
  IsTaken (Evicted _ _) = ⊥

  -- the item that the handler gives up, if it gives one up
  abbrev pub given_up : Handled T D → Option T
  given_up (Taken _) = None
  given_up (Evicted item _) = Some item
