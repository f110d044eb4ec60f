use Rattle.std.proofs.Common.{rules, ◌≡◌, string_bytes, subst}
use Rattle.std.specs.Str.{IsUtf8}
use Rattle.std.proofs.lemmas.Str.{IsUtf8-had}
use Rattle.zs_bytes.specs.Payload.{bytes_of}
use Rattle.zs_bytes.proofs.payload.ZBytes.try_to_string.Goals as goal

pub returns-in-Ok-from_utf8-clause-utf8 : goal.returns-in-Ok-from_utf8-clause-utf8
returns-in-Ok-from_utf8-clause-utf8 c =
    let same : string_bytes c.in-Ok-from_utf8.text ≡ bytes_of c.args.self.now = search rules in
    subst IsUtf8 same (IsUtf8-had _ c.in-Ok-from_utf8.text.ok)
