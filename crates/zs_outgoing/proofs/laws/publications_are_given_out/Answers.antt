use Rattle.zs_outgoing.proofs.Given.{given_out}
use Rattle.zs_outgoing.proofs.laws.publications_are_given_out.Goals as goal

pub returns : goal.returns
returns c = given_out
