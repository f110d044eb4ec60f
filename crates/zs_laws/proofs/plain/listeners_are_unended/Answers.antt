use Rattle.zs_laws.proofs.Unended.{listeners_are_unended}
use Rattle.zs_laws.proofs.plain.listeners_are_unended.Goals as goal

pub returns : goal.returns
returns c = listeners_are_unended
