use Rattle.std.proofs.Common.{ap}
use Rattle.std.specs.Hash as fed
use Rattle.std.specs.Cmp.Lexicographic.{bytes_decides}
use Rattle.zs_keys.proofs.laws.equal_keys_hash_alike.Goals as goal

pub returns : goal.returns
returns c = λ same. ap fed.str ((bytes_decides c.args.left.now.text c.args.right.now.text).0 same)
