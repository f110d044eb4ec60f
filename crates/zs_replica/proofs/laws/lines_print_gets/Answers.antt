use Rattle.zs_replica.proofs.Stepping.{lines_print}
use Rattle.zs_replica.proofs.laws.lines_print_gets.Goals as goal

pub returns : goal.returns
returns c = lines_print
