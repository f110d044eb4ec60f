use Rattle.std.proofs.Common.{◌≡◌, ◌+◌, drop, ◌++◌}
use Rattle.zs_requests.specs.Unfinished.{values_from}
use Rattle.zs_requests.proofs.values.make_values.Given as goal

abbrev pub invariant-loop-queryable : goal.invariant-loop-queryable
invariant-loop-queryable l =
    (l.value ≡ l.first + l.queryable-index)
    × (l.made.items ++ values_from l.value l.request l.row (drop l.queryable-index l.queryables) ≡ values_from l.first l.request l.row l.queryables)
