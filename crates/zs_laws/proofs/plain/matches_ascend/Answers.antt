use Rattle.zs_laws.proofs.Unended.{matches_ascend}
use Rattle.zs_laws.proofs.plain.matches_ascend.Goals as goal

pub returns : goal.returns
returns c = matches_ascend
