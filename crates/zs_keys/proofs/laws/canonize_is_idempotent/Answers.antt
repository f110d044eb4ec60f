use Rattle.zs_keys.proofs.CanonicalForm.{canonize-once}
use Rattle.zs_keys.proofs.laws.canonize_is_idempotent.Goals as goal

pub returns : goal.returns
returns c = canonize-once c.args.text.now
