-- The messages that a journal's turns sent.
use Rattle.std.specs.Prelude.{List, [], ◌∷◌, ◌++◌}
use Rattle.std.specs.List.{flat_map}
use Rattle.zs_wire.specs.declared.message.Message.{Message}
use Rattle.zs_events.specs.declared.turn.Turn.{Turn}
use Rattle.zs_exchange.specs.Exchange.{sent_by}
use Rattle.zs_session_cell.specs.declared.entry.Entry.{Entry}

-- those of a turn, in order
abbrev pub turn_messages : Turn → List Message
turn_messages turn = flat_map sent_by turn.effects

-- those of all entries, in order
abbrev pub messages_of : List Entry → List Message
messages_of entries = flat_map (λ entry. turn_messages entry.turn) entries
