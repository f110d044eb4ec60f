use Rattle.zs_recordings.proofs.Recorded.{runs-record}
use Rattle.zs_recordings.proofs.laws.runs_record.Goals as goal

pub returns : goal.returns
returns c = runs-record
