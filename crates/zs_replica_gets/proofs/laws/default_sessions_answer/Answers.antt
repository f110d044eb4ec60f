use Rattle.zs_replica_gets.proofs.Beginning.{default_answers, other_answers}
use Rattle.zs_replica_gets.proofs.laws.default_sessions_answer.Goals as goal

pub returns : goal.returns
returns c = record { first = default_answers; second = other_answers }
