-- What the text of a key expression is, wherever it lives.
use Rattle.std.specs.Prelude.{ℕ, List, string_bytes}
use Rattle.std.specs.Arc.{arc_value}
use Rattle.zs_keys.specs.declared.key_text.KeyText.{KeyText}
use Rattle.zs_keys.specs.declared.key_text.KeyText.TheVariants.{Borrowed, Lent, Own, Shared}

-- its bytes
abbrev pub key_text_bytes : KeyText → List ℕ
key_text_bytes (Borrowed text) = text.now
key_text_bytes (Lent text) = string_bytes (arc_value text.now)
key_text_bytes (Own text) = string_bytes text
key_text_bytes (Shared text) = string_bytes (arc_value text)
