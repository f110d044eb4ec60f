use Rattle.std.proofs.Common.{◌≡◌, true, map, take}
use Rattle.zs_event_lines.specs.Slots.{slots_say}
use Rattle.zs_event_lines.specs.Views.{slot_of}
use Rattle.zs_event_lines.proofs.lines.all_say.Given as goal

abbrev pub invariant-loop-part : goal.invariant-loop-part
invariant-loop-part l = slots_say (map slot_of (take l.part-index l.parts)) ≡ true
