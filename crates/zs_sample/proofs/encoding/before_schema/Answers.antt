use Rattle.zs_sample.proofs.Schemas.{base-none, base-split}
use Rattle.zs_sample.proofs.encoding.before_schema.Goals as goal

pub returns-in-Some : goal.returns-in-Some
returns-in-Some c =
    base-split c.args.name.now c.in-Some.base.now c.in-Some.field-0-1.now c.utf8.name c.in-Some.ensures.cases

pub returns-in-None : goal.returns-in-None
returns-in-None c = base-none c.args.name.now c.utf8.name c.in-None.ensures.cases
