use Rattle.zs_outgoing.proofs.Sent.{tokens_sent}
use Rattle.zs_outgoing.proofs.laws.tokens_are_sent.Goals as goal

pub returns : goal.returns
returns c = tokens_sent
