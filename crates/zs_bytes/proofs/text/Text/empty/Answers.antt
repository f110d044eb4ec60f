use Rattle.std.proofs.lemmas.Str.{chars-nil}
use Rattle.zs_bytes.proofs.text.Text.empty.Goals as goal

pub returns : goal.returns
returns _ = chars-nil
