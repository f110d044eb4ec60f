use Rattle.zs_laws.proofs.Fresh.{query_values_are_fresh}
use Rattle.zs_laws.proofs.numbers.query_values_are_fresh.Goals as goal

pub returns : goal.returns
returns c = query_values_are_fresh
