-- What is decided of an event, before anything is changed.
use Rattle.std.specs.Prelude.{◌≡◌, true}
use Rattle.zs_events.specs.declared.event.Event.{Event}
use Rattle.zs_events.specs.Turn.{was_refused}
use Rattle.zs_world.specs.declared.change.Decision.{Decision}
use Rattle.zs_world.specs.World.{World}
use Rattle.zs_world.specs.Changes.{Fits, with_change}
use Rattle.zs_standing.specs.Stands.{Previews, TakesStep}

-- a plan of an event: its turn is the event's, its change can be made, a state with that change has taken the event, and one that
-- refused it is as it was
pub record Plans (w : World) (e : Event) (d : Decision) : Type 0 where
  pub previews : Previews w e d.turn
  pub fits : Fits w d.change
  pub steps : (new : World) → new ≡ with_change d.change w → TakesStep w new e d.turn
  pub refuses : was_refused d.turn.answer ≡ true → with_change d.change w ≡ w
