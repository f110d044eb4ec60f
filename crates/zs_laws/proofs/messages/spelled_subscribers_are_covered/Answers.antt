use Rattle.zs_laws.proofs.Spelled.{spelled_subscribers_are_covered}
use Rattle.zs_laws.proofs.messages.spelled_subscribers_are_covered.Goals as goal

pub returns : goal.returns
returns c = spelled_subscribers_are_covered
