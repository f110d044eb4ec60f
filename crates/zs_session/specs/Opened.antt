-- Which channels accepted events declared, and so which reads are refused.
use Rattle.std.specs.Prelude.{ℕ, ◌==◌, Bool, false, ◌&&◌, ◌||◌, List, Option, Some, None, if◌then◌else◌}
use Rattle.std.specs.List.{list_any}
use Rattle.zs_events.specs.declared.turn.Kind.{Kind}
use Rattle.zs_events.specs.declared.turn.Refusal.{Refusal}
use Rattle.zs_events.specs.declared.turn.Refusal.TheVariants.{NotFound}
use Rattle.zs_events.specs.Kinds.{row_of}
use Rattle.zs_channels.specs.Channel.{is_channel}
use Rattle.zs_channels.specs.Told.{is_same}
use Rattle.zs_core.specs.Entry.{Entry, is_closed}

-- whether a handler of that kind, under the number that was drawn, is the one of this kind and number
abbrev pub is_handled : Kind → ℕ → Option Kind → Option ℕ → Bool
is_handled kind id (Some handled) (Some number) = is_same kind handled && (id == number)
is_handled kind id handled number = false

-- whether an accepted event declared a channel for what has that kind and number
abbrev pub opens : Kind → ℕ → Entry → Bool
opens kind id x = is_handled kind id (row_of x.event).handled x.number && is_channel (row_of x.event).channel

abbrev pub was_opened : Kind → ℕ → List Entry → Bool
was_opened kind id past = list_any (opens kind id) past

-- a read is refused in an open session for which no channel was declared
abbrev pub plain_refusal : List Entry → Kind → ℕ → Option Refusal
plain_refusal past kind id = if is_closed past || was_opened kind id past then None else Some NotFound
