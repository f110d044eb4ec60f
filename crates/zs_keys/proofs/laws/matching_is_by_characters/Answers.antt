use Rattle.zs_keys.proofs.CharacterChunks.{intersects-by_characters, includes-by_characters}
use Rattle.zs_keys.proofs.laws.matching_is_by_characters.Goals as goal

pub returns : goal.returns
returns c = (
  intersects-by_characters c.args.left.now c.args.right.now c.utf8.left c.utf8.right,
  includes-by_characters c.args.left.now c.args.right.now c.utf8.left c.utf8.right,
)
