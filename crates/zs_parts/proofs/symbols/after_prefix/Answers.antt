use Rattle.zs_parts.proofs.ReadingFields.{prefix-stripped}
use Rattle.zs_parts.proofs.symbols.after_prefix.Goals as goal

pub returns : goal.returns
returns c = prefix-stripped c.args.prefix.now c.args.field.now c.strip_prefix.result c.strip_prefix.ensures.cases
