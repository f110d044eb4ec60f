-- What the channels of a script hear: the turns of its session, and the reads.
use Rattle.std.specs.Prelude.{ℕ, List, [], ◌∷◌, ◌++◌, Option, option_map}
use Rattle.zs_events.specs.declared.event.Event.{Event}
use Rattle.zs_events.specs.declared.received.Received.{Received}
use Rattle.zs_events.specs.declared.script_event.ScriptEvent.{ScriptEvent}
use Rattle.zs_events.specs.declared.script_event.ScriptEvent.TheVariants.{Core, Recv}
use Rattle.zs_events.specs.declared.turn.HandOver.{HandOver}
use Rattle.zs_events.specs.declared.turn.Kind.{Kind}
use Rattle.zs_core.specs.Types.{Settings}
use Rattle.zs_core.specs.Effects.{effects}
use Rattle.zs_channels.specs.Channel.{received}
use Rattle.zs_channels.specs.Told.{ChannelNews, Hears, Read, state, channel_of}
use Rattle.zs_channels.specs.Heard.{news_of_turn}

-- the events of the session in a history of a script, the newest first in both
abbrev pub core_of : List ScriptEvent → List Event
core_of [] = []
core_of (Core e ∷ h) = e ∷ core_of h
core_of (Recv kind id ∷ h) = core_of h

-- all that channels heard in a history, the newest first: of each event of the session its turn, and of each read that
abbrev pub heard : Settings → List ScriptEvent → List (ChannelNews HandOver)
heard s [] = []
heard s (Core e ∷ h) = news_of_turn e (effects s (core_of h) e) ++ heard s h
heard s (Recv kind id ∷ h) = Hears kind id Read ∷ heard s h

-- what a read of the channel of a kind and number is answered behind a history, if there is one
abbrev pub answer_of : Settings → List ScriptEvent → Kind → ℕ → Option (Received HandOver)
answer_of s h kind id = option_map (λ d. received (state d)) (channel_of kind id (heard s h))
