-- The words for channels, each read from one field.
use Rattle.std.specs.Prelude.{ℕ, List, Option, Some, None, option_map, option_and_then, codes, if◌then◌else◌}
use Rattle.std.specs.Str.{bytes_eq}
use Rattle.zs_events.specs.declared.chan.Chan.{Chan}
use Rattle.zs_events.specs.declared.chan.Chan.TheVariants.{Print, Fifo, Ring}
use Rattle.zs_events.specs.declared.turn.Kind.{Kind}
use Rattle.zs_events.specs.declared.turn.Kind.TheVariants.{Subscriber, Get, LivelinessGet}
use Rattle.zs_parts.specs.Symbols.{number_of, u16_max, after_prefix}
use Rattle.zs_parts.specs.Options.{at_least}

-- a channel's size: from 1 to 65535
abbrev pub size_of : List ℕ → Option ℕ
size_of digits = option_and_then (λ n. at_least 1 n) (number_of u16_max digits)

-- a channel of the size that is given, if one is, else another one
abbrev pub sized_in : (ℕ → Chan) → Option (List ℕ) → Option Chan → Option Chan
sized_in make None other = other
sized_in make (Some digits) other = option_map make (size_of digits)

-- where items go: `print`, `fifo:N` or `ring:N`
abbrev pub channel_of : List ℕ → Option Chan
channel_of field =
    if bytes_eq field (codes "print") then Some Print else
    sized_in Fifo (after_prefix (codes "fifo:") field) (sized_in Ring (after_prefix (codes "ring:") field) None)

-- a word for what can have a channel
abbrev pub channel_kind_of : List ℕ → Option Kind
channel_kind_of field =
    if bytes_eq field (codes "sub") then Some Subscriber else
    if bytes_eq field (codes "get") then Some Get else
    if bytes_eq field (codes "lget") then Some LivelinessGet else None
