use Rattle.zs_laws.proofs.EndsOfTokens.{ends_of_tokens_gets}
use Rattle.zs_laws.proofs.ends.ends_of_tokens_gets.Goals as goal

pub returns : goal.returns
returns c = ends_of_tokens_gets
