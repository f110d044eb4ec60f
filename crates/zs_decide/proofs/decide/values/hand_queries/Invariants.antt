use Rattle.std.proofs.Common.{◌≡◌, ◌+◌, ◌++◌, map, drop}
use Rattle.zs_query.specs.Unfinished.{values_from}
use Rattle.zs_model.specs.GetEffects.{hand_query}
use Rattle.zs_decide.proofs.decide.values.hand_queries.Given as goal

abbrev pub invariant-loop-queryable : goal.invariant-loop-queryable
invariant-loop-queryable l = record {
  number : l.value ≡ l.world.handing.next + l.queryable-index;
  effects : l.effects ++ map hand_query (values_from l.value l.world.handing.handed l.row (drop l.queryable-index l.ids)) ≡ l.fn.effects ++ map hand_query (values_from l.world.handing.next l.world.handing.handed l.row l.ids);
}
