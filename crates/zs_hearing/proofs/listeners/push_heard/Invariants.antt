use Rattle.std.proofs.Common.{◌≡◌, ◌++◌, take}
use Rattle.std.specs.Prelude.{map, filter}
use Rattle.zs_tables.specs.Matching.{is_heard}
use Rattle.zs_entity_tables.specs.MatchingTables.{heard_effect}
use Rattle.zs_hearing.proofs.listeners.push_heard.Given as goal

abbrev pub invariant-loop-one : goal.invariant-loop-one
invariant-loop-one l = l.effects ≡ l.fn.effects ++ map heard_effect (filter is_heard (take l.one-index l.one-items))
