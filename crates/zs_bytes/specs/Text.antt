-- What the memory of a text stands for.
use Rattle.std.specs.Prelude.{ℕ, List, [], codes}
use Rattle.std.specs.Arc.{arc_str_bytes}
use Rattle.zs_bytes.specs.declared.text.Held.{Held}
use Rattle.zs_bytes.specs.declared.text.Held.TheVariants.{Empty, ZenohBytes, Shared}

-- the UTF-8 bytes that are held
abbrev pub held_bytes : Held → List ℕ
held_bytes Empty = []
held_bytes ZenohBytes = codes "zenoh/bytes"
held_bytes (Shared text) = arc_str_bytes text
