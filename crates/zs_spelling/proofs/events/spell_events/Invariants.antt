use Rattle.std.proofs.Common.{take}
use Rattle.std.specs.List.{AllByRecursion}
use Rattle.zs_laws.specs.Spelled.{IsSpelled}
use Rattle.zs_spelling.proofs.events.spell_events.Given as goal

abbrev pub invariant-loop-event : goal.invariant-loop-event
invariant-loop-event l = AllByRecursion IsSpelled (take l.event-index l.fn.events)
