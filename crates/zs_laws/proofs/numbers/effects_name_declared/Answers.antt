use Rattle.zs_laws.proofs.NamingLaws.{effects_name_declared}
use Rattle.zs_laws.proofs.numbers.effects_name_declared.Goals as goal

pub returns : goal.returns
returns c = effects_name_declared
