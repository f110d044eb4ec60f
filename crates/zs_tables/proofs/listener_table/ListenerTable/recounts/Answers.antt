use Rattle.std.proofs.Common.{◌≡◌, [], ap, sym, ◌∙◌}
use Rattle.zs_tables.specs.Matching.{seen_if, recounts}
use Rattle.zs_tables.specs.Listeners.{recounts_at}
use Rattle.zs_tables.proofs.Recounting.{recounts_met}
use Rattle.zs_tables.proofs.listener_table.ListenerTable.recounts.Goals as goal

pub returns : goal.returns
returns c =
    let met = recounts_met (seen_if c.args.goes) (seen_if c.args.comes) c.args.self.now (rw (← c.self.view_is) c.len.ensures.ascending) in
    rw (c.deref.ensures.value, c.in_ok-ids.ensures, met) at c.recounts_at.ensures
