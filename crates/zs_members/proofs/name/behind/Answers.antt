use Rattle.zs_members.proofs.Naming.{stripped}
use Rattle.zs_members.proofs.name.behind.Goals as goal

pub returns : goal.returns
returns c = stripped c.args.front.now c.args.text.now c.strip_prefix.result c.strip_prefix.ensures.cases
