-- Keys that are given as a number and bytes.
use Rattle.std.specs.Prelude.{ℕ, ◌==◌, if◌then◌else◌, List, Option, None, Some}
use Rattle.zs_events.specs.declared.key_arg.KeyArg.{KeyArg}
use Rattle.zs_events.specs.declared.key_arg.KeyArg.TheVariants.{Text, Number}
use Rattle.zs_forms.specs.Texts.{text_in}

-- a declared number with a text behind it; 0 is none, and the text stands alone
abbrev pub key_arg : ℕ → List ℕ → KeyArg
key_arg number text = if number == 0 then Text text else Number number text

abbrev pub key_with : ℕ → Option (List ℕ) → Option KeyArg
key_with number (Some text) = Some (key_arg number text)
key_with number None = None

abbrev pub key_of : ℕ → List ℕ → Option KeyArg
key_of number bytes = key_with number (text_in bytes)
