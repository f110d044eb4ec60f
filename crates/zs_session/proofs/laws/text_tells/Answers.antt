use Rattle.zs_session.proofs.Scripts.{script_told}
use Rattle.zs_session.proofs.laws.text_tells.Goals as goal

pub returns : goal.returns
returns c = script_told
