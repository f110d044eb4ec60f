use Rattle.zs_laws.proofs.Untaken.{ends_nothing}
use Rattle.zs_laws.proofs.histories.taken_cancellation_tokens_end_nothing.Goals as goal

pub returns : goal.returns
returns c = λ s h token was. ends_nothing s h token was
