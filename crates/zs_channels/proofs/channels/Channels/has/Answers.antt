use Rattle.std.proofs.Common.{sym, ◌∙◌}
use Rattle.zs_channels.proofs.Rows.{unheard}
use Rattle.zs_channels.proofs.channels.Channels.has.Goals as goal

pub returns-clause-none : goal.returns-clause-none
returns-clause-none g c = λ no change. unheard c.args.kind c.args.id change c.args.self.now (sym c.finds.ensures ∙ no)
