use Rattle.zs_tables.proofs.Moving.{heard_turned}
use Rattle.zs_tables.proofs.matching_laws.changes_are_heard.Goals as goal

pub returns : goal.returns
returns c = heard_turned
