use Rattle.zs_group_laws.proofs.Seeing.{both_see}
use Rattle.zs_group_laws.proofs.laws.sides_see_members.Goals as goal

pub returns : goal.returns
returns c = both_see c.remote_tokens_are_declared.ensures
