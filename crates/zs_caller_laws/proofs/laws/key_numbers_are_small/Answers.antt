use Rattle.zs_caller_laws.proofs.Small.{key_numbers_are_small}
use Rattle.zs_caller_laws.proofs.laws.key_numbers_are_small.Goals as goal

pub returns : goal.returns
returns c = key_numbers_are_small
