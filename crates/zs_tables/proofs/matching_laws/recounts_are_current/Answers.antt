use Rattle.zs_tables.proofs.Moving.{current}
use Rattle.zs_tables.proofs.matching_laws.recounts_are_current.Goals as goal

pub returns : goal.returns
returns c = current
