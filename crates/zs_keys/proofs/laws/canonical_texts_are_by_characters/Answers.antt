use Rattle.zs_keys.proofs.CharacterCanonical.{canonical-by_characters}
use Rattle.zs_keys.proofs.laws.canonical_texts_are_by_characters.Goals as goal

pub returns : goal.returns
returns c = canonical-by_characters c.args.text.now c.utf8.text
