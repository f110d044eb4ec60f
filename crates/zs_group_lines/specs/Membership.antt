-- What a side has of a group, and what becomes of it.
use Rattle.std.specs.Prelude.{ℕ, List, []}
use Rattle.zs_events.specs.declared.event.Event.{Event}
use Rattle.zs_events.specs.declared.turn.Effect.{Effect}
use Rattle.zs_events.specs.declared.turn.Turn.{Turn}
use Rattle.zs_members.specs.Members.{Member}
use Rattle.zs_group_lines.specs.Tokens.{held_after, heard, with_held}
use Rattle.zs_group_lines.specs.declared.membership.Membership.{Membership}

-- the number of the liveliness subscriber that a side declares first
abbrev pub hearer : ℕ
hearer = 2

abbrev pub nobody : Membership
nobody = record { tokens = []; heard = [] }

-- behind effects that are handed to it
abbrev pub hears : List Effect → Membership → Membership
hears effects m = record { tokens = m.tokens; heard = heard hearer effects m.heard }

-- behind an event, by its turn
abbrev pub noted : Event → Turn → Membership → Membership
noted e turn m = record { tokens = held_after e turn.answer m.tokens; heard = heard hearer turn.effects m.heard }

-- whom the side sees: the tokens that it holds and those that it hears of
abbrev pub view_of : Membership → List Member
view_of m = with_held m.tokens m.heard
