use Rattle.zs_cancel.proofs.Lives.{begins_once, given-ascends, told_is}
use Rattle.zs_cancel.proofs.law.token_law.Goals as goal

pub returns-clause-once : goal.returns-clause-once
returns-clause-once g c = begins_once

pub returns-clause-ascending : goal.returns-clause-ascending
returns-clause-ascending g c = given-ascends

pub returns-clause-told : goal.returns-clause-told
returns-clause-told g c = told_is
