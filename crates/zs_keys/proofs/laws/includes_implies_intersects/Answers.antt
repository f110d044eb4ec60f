use Rattle.zs_keys.proofs.IncludeMeets.{includes-meets}
use Rattle.zs_keys.proofs.laws.includes_implies_intersects.Goals as goal

pub returns : goal.returns
returns c = includes-meets c.args.left.now c.args.right.now
