-- What an undeclaration names.
use Rattle.std.specs.Prelude.{Option, Some, None}
use Rattle.zs_events.specs.declared.event.Event.{Event}
use Rattle.zs_events.specs.declared.event.Event.TheVariants.{Undeclare}
use Rattle.zs_events.specs.Kinds.{kind_of}
use Rattle.zs_posts.specs.declared.key.Key.{Key}
use Rattle.zs_posts.specs.declared.key.Key.TheVariants.{Of}

-- the gate of it
abbrev pub undeclared_key : Event → Option Key
undeclared_key (Undeclare kind id) = Some (Of (kind_of kind) id)
undeclared_key event = None
