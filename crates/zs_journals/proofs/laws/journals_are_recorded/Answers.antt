use Rattle.zs_journals.proofs.Recorded.{journals-recorded}
use Rattle.zs_journals.proofs.laws.journals_are_recorded.Goals as goal

pub returns : goal.returns
returns c = journals-recorded
