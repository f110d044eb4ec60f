use Rattle.zs_laws.proofs.TokensKnown.{tokens_are_unended}
use Rattle.zs_laws.proofs.plain.tokens_are_unended.Goals as goal

pub returns : goal.returns
returns c = tokens_are_unended
