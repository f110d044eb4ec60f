use Rattle.zs_groups.proofs.Views.{views_show}
use Rattle.zs_groups.proofs.laws.views_show_members.Goals as goal

pub returns : goal.returns
returns c = views_show c.sides_see_members.ensures
