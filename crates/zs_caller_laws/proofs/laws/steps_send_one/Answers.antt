use Rattle.zs_caller_laws.proofs.Counting.{steps_send_one}
use Rattle.zs_caller_laws.proofs.laws.steps_send_one.Goals as goal

pub returns : goal.returns
returns c = steps_send_one c.one_message_at_most.ensures
