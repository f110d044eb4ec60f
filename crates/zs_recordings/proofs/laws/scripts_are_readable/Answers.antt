use Rattle.zs_recordings.proofs.Readable.{scripts-readable}
use Rattle.zs_recordings.proofs.laws.scripts_are_readable.Goals as goal

pub returns : goal.returns
returns c = scripts-readable
