use Rattle.zs_keys.proofs.CanonicalForm.{form-where}
use Rattle.zs_keys.proofs.laws.canonical_form_is_canonical.Goals as goal

pub returns : goal.returns
returns c = form-where c.args.text.now
