use Rattle.std.proofs.Common.{sym}
use Rattle.zs_keys.proofs.PlainLemmas.{stands-canonical}
use Rattle.zs_keys.proofs.plain.is_plain_key.Goals as goal

pub loop-byte-init : goal.loop-byte-init
loop-byte-init c = sym (stands-canonical c.args.text.now)
