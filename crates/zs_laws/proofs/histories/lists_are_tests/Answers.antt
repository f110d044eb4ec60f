use Rattle.zs_laws.proofs.Recipients.{lists_are_tests}
use Rattle.zs_laws.proofs.histories.lists_are_tests.Goals as goal

pub returns : goal.returns
returns c = lists_are_tests
