use Rattle.zs_members.proofs.Telling.{views_count}
use Rattle.zs_members.proofs.laws.views_count.Goals as goal

pub returns : goal.returns
returns c = views_count
