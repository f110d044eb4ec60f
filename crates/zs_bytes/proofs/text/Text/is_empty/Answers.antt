use Rattle.zs_bytes.proofs.Texts.{empty-encodes}
use Rattle.zs_bytes.proofs.text.Text.is_empty.Goals as goal

pub returns : goal.returns
returns c = rw c.is_empty.ensures (empty-encodes c.args.self.now c.as_str.result.now c.as_str.ensures.bytes)
