use Rattle.std.specs.String.{string_bytes}
use Rattle.zs_recordings.proofs.Written.{entry_is, front_of}
use Rattle.zs_recordings.proofs.writing.write_entry.Goals as goal

pub returns-in_err-write_whole-clause-part : goal.returns-in_err-write_whole-clause-part
returns-in_err-write_whole-clause-part g c =
    front_of _ _ c.as_bytes.result.now _
    (entry_is c.args.event.now c.args.number c.args.turn.now c.in_ok-told.told (string_bytes c.clear.new.self) (string_bytes c.append_event_row.new.out)
    (string_bytes c.append_turn_rows.new.out) c.as_bytes.result.now c.if-not-told.false c.clear.ensures.bytes c.in_ok-told.ensures
    c.in_ok-append_turn_rows.ensures c.as_bytes.ensures.value)
    c.write_whole.ensures.part

pub returns-clause-part : goal.returns-clause-part
returns-clause-part g c =
    front_of _ _ c.as_bytes.result.now _
    (entry_is c.args.event.now c.args.number c.args.turn.now c.in_ok-told.told (string_bytes c.clear.new.self) (string_bytes c.append_event_row.new.out)
    (string_bytes c.append_turn_rows.new.out) c.as_bytes.result.now c.if-not-told.false c.clear.ensures.bytes c.in_ok-told.ensures
    c.in_ok-append_turn_rows.ensures c.as_bytes.ensures.value)
    c.write_whole.ensures.part
