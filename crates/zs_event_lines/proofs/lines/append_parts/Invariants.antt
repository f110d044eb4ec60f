use Rattle.std.proofs.Common.{◌≡◌, ◌++◌, map, take}
use Rattle.std.specs.String.{string_bytes}
use Rattle.zs_event_lines.specs.Slots.{slots_text}
use Rattle.zs_event_lines.specs.Views.{slot_of}
use Rattle.zs_event_lines.proofs.lines.append_parts.Given as goal

abbrev pub invariant-loop-part : goal.invariant-loop-part
invariant-loop-part l =
    string_bytes l.out ≡ string_bytes l.fn.out ++ slots_text (map slot_of (take l.part-index l.parts))
