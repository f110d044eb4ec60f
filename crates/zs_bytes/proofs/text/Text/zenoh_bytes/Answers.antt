use Rattle.std.specs.Prelude.{codes}
use Rattle.std.proofs.Common.{refl}
use Rattle.std.proofs.lemmas.Str.{chars-encodes}
use Rattle.zs_bytes.proofs.text.Text.zenoh_bytes.Goals as goal

pub returns : goal.returns
unfolding lib.Utf8.encode
returns _ = chars-encodes (codes "zenoh/bytes") refl
