use Rattle.zs_tables.proofs.Moving.{status_counted}
use Rattle.zs_tables.proofs.matching_laws.status_is_count.Goals as goal

pub returns : goal.returns
returns c = status_counted
