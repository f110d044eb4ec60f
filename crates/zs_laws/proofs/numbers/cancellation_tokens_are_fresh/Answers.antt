use Rattle.zs_laws.proofs.Fresh.{cancellation_tokens_are_fresh}
use Rattle.zs_laws.proofs.numbers.cancellation_tokens_are_fresh.Goals as goal

pub returns : goal.returns
returns c = cancellation_tokens_are_fresh
