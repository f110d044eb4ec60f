-- The event of a message that comes in.
use Rattle.std.specs.Prelude.{Option, None, Some}
use Rattle.zs_events.specs.declared.event.Event.{Event}
use Rattle.zs_events.specs.declared.event.Event.TheVariants.{Net}
use Rattle.zs_wire.specs.declared.message.Message.{Message}
use Rattle.zs_message_forms.specs.Messages.{message_of}
use Rattle.zs_message_forms.specs.declared.forms.MessageForm.{MessageForm}
use Rattle.zs_message_forms.specs.declared.forms.PartsForm.{PartsForm}

abbrev pub received : Option Message → Option Event
received (Some message) = Some (Net message)
received None = None

-- that message comes in, if they say one
abbrev pub received_of : MessageForm → PartsForm → Option Event
received_of form parts = received (message_of form parts)
