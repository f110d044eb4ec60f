use Rattle.zs_laws.proofs.EndsOfGets.{ends_of_gets}
use Rattle.zs_laws.proofs.ends.ends_of_gets.Goals as goal

pub returns : goal.returns
returns c = ends_of_gets
