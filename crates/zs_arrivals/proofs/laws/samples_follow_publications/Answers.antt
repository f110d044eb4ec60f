use Rattle.zs_arrivals.proofs.Following.{samples_follow}
use Rattle.zs_arrivals.proofs.laws.samples_follow_publications.Goals as goal

pub returns : goal.returns
returns c = samples_follow
