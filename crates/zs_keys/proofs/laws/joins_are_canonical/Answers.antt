use Rattle.zs_keys.proofs.CanonicalForm.{join-canonical}
use Rattle.zs_keys.proofs.laws.joins_are_canonical.Goals as goal

pub returns : goal.returns
returns c = join-canonical c.args.text.now c.args.suffix.now
