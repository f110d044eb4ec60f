use Rattle.zs_c.proofs.Waiting.{none_first}
use Rattle.zs_c.proofs.effects.copy_first.Goals as goal

pub returns-in-None-clause-nothing : goal.returns-in-None-clause-nothing
returns-in-None-clause-nothing c = λ _. none_first c.args.session.now.effects c.in-None.ensures
