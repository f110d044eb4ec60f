use Rattle.std.proofs.Common.{sym, ap, ◌∙◌}
use Rattle.zs_tables.specs.Matching.{seen_if}
use Rattle.zs_tables.specs.Listeners.{recount_in}
use Rattle.zs_tables.proofs.listener_table.ListenerTable.recount_in.Goals as goal

pub returns-in_default : goal.returns-in_default
returns-in_default c = rw (← c.self.view_is) (ap (recount_in (seen_if c.args.goes) (seen_if c.args.comes)) c.in_default.ensures)

pub returns : goal.returns
returns c = rw (← c.self.view_is, ← c.in-Some.ensures) c.recount_of.ensures
