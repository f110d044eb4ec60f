-- What a session is asked for as what was declared is ended.
use Rattle.std.specs.Prelude.{Bool, true, false, Option, None}
use Rattle.zs_events.specs.declared.event.Event.{Event}
use Rattle.zs_posts.specs.declared.key.Key.{Key}
use Rattle.zs_cell.specs.Undeclared.{undeclared_key}

-- the gate that is asked for with an undeclaration: that of what it ends, where its callbacks are waited for
abbrev pub waited_key : Bool → Event → Option Key
waited_key true event = undeclared_key event
waited_key false event = None
