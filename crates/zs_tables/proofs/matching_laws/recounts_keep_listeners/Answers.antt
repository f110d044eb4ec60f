use Rattle.zs_tables.proofs.Moving.{listeners_stay}
use Rattle.zs_tables.proofs.matching_laws.recounts_keep_listeners.Goals as goal

pub returns : goal.returns
returns c = listeners_stay
