use Rattle.zs_members.proofs.Counting.{same_counts}
use Rattle.zs_members.proofs.laws.same_counts_same_view.Goals as goal

pub returns : goal.returns
returns c = same_counts
