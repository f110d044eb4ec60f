use Rattle.zs_caller_laws.proofs.Small.{keys_come_back_declared}
use Rattle.zs_caller_laws.proofs.laws.keys_come_back_declared.Goals as goal

pub returns : goal.returns
returns c = keys_come_back_declared c.key_numbers_are_small.ensures
