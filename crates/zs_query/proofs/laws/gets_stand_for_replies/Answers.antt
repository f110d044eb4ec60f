use Rattle.zs_query.proofs.Standing.{stands}
use Rattle.zs_query.proofs.laws.gets_stand_for_replies.Goals as goal

pub returns : goal.returns
returns c = stands
