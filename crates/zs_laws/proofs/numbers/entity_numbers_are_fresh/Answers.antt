use Rattle.zs_laws.proofs.Fresh.{entity_numbers_are_fresh}
use Rattle.zs_laws.proofs.numbers.entity_numbers_are_fresh.Goals as goal

pub returns : goal.returns
returns c = entity_numbers_are_fresh
