use Rattle.std.proofs.Common.{◌≡◌, take}
use Rattle.zs_tables.specs.Matching.{seen_if}
use Rattle.zs_tables.specs.Listeners.{recounts_at}
use Rattle.zs_tables.proofs.listener_table.ListenerTable.recounts_at.Given as goal

abbrev pub invariant-loop-id : goal.invariant-loop-id
invariant-loop-id l = l.all.items ≡ recounts_at (seen_if l.goes) (seen_if l.comes) l.self (take l.id-index l.ids)
