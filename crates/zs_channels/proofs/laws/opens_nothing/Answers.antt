use Rattle.zs_channels.proofs.Rows.{printed_alone, of_others}
use Rattle.zs_channels.proofs.laws.opens_nothing.Goals as goal

pub returns-clause-printed : goal.returns-clause-printed
returns-clause-printed g c = printed_alone

pub returns-clause-others : goal.returns-clause-others
returns-clause-others g c = of_others
