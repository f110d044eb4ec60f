-- What channels hear of a turn: what is declared with one, what is handed over, and what ends.
use Rattle.std.specs.Prelude.{List, [], ◌∷◌, ◌++◌, Option, Some, None}
use Rattle.zs_events.specs.declared.chan.Chan.{Chan}
use Rattle.zs_events.specs.declared.event.Event.{Event}
use Rattle.zs_events.specs.declared.turn.Answer.{Answer}
use Rattle.zs_events.specs.declared.turn.Answer.TheVariants.{Ok as accepted, Refused}
use Rattle.zs_events.specs.declared.turn.Effect.{Effect}
use Rattle.zs_events.specs.declared.turn.Effect.TheVariants.{Send, Hand, End, Matching}
use Rattle.zs_events.specs.declared.turn.HandOver.{HandOver}
use Rattle.zs_events.specs.declared.turn.HandOver.TheVariants.{Sample, Reply, Query}
use Rattle.zs_events.specs.declared.turn.Kind.{Kind}
use Rattle.zs_events.specs.declared.turn.Turn.{Turn}
use Rattle.zs_events.specs.Kinds.{row_of}
use Rattle.zs_channels.specs.Told.{ChannelNews, Opens, Hears, Handed, Ended}

-- the channel that an event names is opened under the number that it was answered
abbrev pub opening_of : Kind → Chan → Answer → List (ChannelNews HandOver)
opening_of kind to (accepted (Some number)) = Opens kind number to ∷ []
opening_of kind to (accepted None) = []
opening_of kind to (Refused refusal) = []

abbrev pub opening : Option Kind → Chan → Answer → List (ChannelNews HandOver)
opening (Some kind) to answer = opening_of kind to answer
opening None to answer = []

-- what is handed to someone goes into their channel
abbrev pub news_of_item : HandOver → List (ChannelNews HandOver)
news_of_item (Sample kind id sample) = Hears kind id (Handed (Sample kind id sample)) ∷ []
news_of_item (Reply kind id reply) = Hears kind id (Handed (Reply kind id reply)) ∷ []
news_of_item (Query id value query) = []

-- which ends where they do
abbrev pub news_of_effect : Effect → List (ChannelNews HandOver)
news_of_effect (Send message) = []
news_of_effect (Hand item) = news_of_item item
news_of_effect (End kind id) = Hears kind id Ended ∷ []
news_of_effect (Matching id matching) = []

-- of effects in their order, the newest first
abbrev pub news_of_effects : List Effect → List (ChannelNews HandOver)
news_of_effects [] = []
news_of_effects (f ∷ fx) = news_of_effects fx ++ news_of_effect f

-- and of the event that they came of
abbrev pub news_of_turn : Event → Turn → List (ChannelNews HandOver)
news_of_turn e turn = news_of_effects turn.effects ++ opening (row_of e).handled (row_of e).channel turn.answer
