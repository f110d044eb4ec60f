use Rattle.std.proofs.Common.{◌≡◌, refl}
use Rattle.std.specs.Prelude.{codes}
use Rattle.std.specs.Str.{chars}

-- the known names are their own characters
pub zenoh_bytes_chars : chars (codes "zenoh/bytes") ≡ codes "zenoh/bytes"
unfolding chars
zenoh_bytes_chars = refl

pub zenoh_string_chars : chars (codes "zenoh/string") ≡ codes "zenoh/string"
unfolding chars
zenoh_string_chars = refl

pub text_plain_chars : chars (codes "text/plain") ≡ codes "text/plain"
unfolding chars
text_plain_chars = refl

pub application_json_chars : chars (codes "application/json") ≡ codes "application/json"
unfolding chars
application_json_chars = refl
