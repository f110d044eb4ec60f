use Rattle.std.proofs.Common.{◌∙◌, ap}
use Rattle.zs_query.specs.Gets.{ends_at}
use Rattle.zs_query.proofs.Getting.{if_ok}
use Rattle.zs_query.proofs.Indexed.{ends_are}
use Rattle.zs_query.proofs.get_rows.GetRows.ends.Goals as goal

pub returns : goal.returns
returns c = if_ok c.ends_of.result _ _ (ends_are c.args.now c.in_ok-due.due c.self.inside.rows c.self.inside.marks c.self.invariant c.ends_of.ensures.ascending c.in_ok-due.ensures ∙ ap (ends_at c.args.now) c.self.view_is) c.ends_of.ensures.ends
