use Rattle.zs_laws.proofs.Spelled.{spelled_forms_are_read}
use Rattle.zs_laws.proofs.messages.spelled_forms_are_read.Goals as goal

pub returns : goal.returns
returns c = spelled_forms_are_read
