use Rattle.std.proofs.Common.{◌≡◌, drop}
use Rattle.zs_tables.specs.Matching.{recounted}
use Rattle.zs_tables.proofs.listener_table.ListenerTable.recount.Given as goal

abbrev pub invariant-loop-one : goal.invariant-loop-one
invariant-loop-one l = recounted (drop l.one-index l.all) l.self ≡ recounted l.fn.all l.fn.self
