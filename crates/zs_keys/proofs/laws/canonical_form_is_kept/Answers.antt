use Rattle.zs_keys.proofs.CanonicalForm.{canonical-itself}
use Rattle.zs_keys.proofs.laws.canonical_form_is_kept.Goals as goal

pub returns : goal.returns
returns c = canonical-itself c.args.text.now
