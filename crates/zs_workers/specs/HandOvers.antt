-- What the turns of a journal hand to subscribers.
use Rattle.std.specs.Prelude.{ℕ, List, [], ◌∷◌}
use Rattle.std.specs.List.{flat_map}
use Rattle.zs_events.specs.declared.turn.Effect.{Effect}
use Rattle.zs_events.specs.declared.turn.Effect.TheVariants.{Send, Hand, End, Matching}
use Rattle.zs_events.specs.declared.turn.HandOver.{HandOver}
use Rattle.zs_events.specs.declared.turn.HandOver.TheVariants.{Sample, Reply, Query}
use Rattle.zs_events.specs.declared.turn.Kind.{Kind}
use Rattle.zs_events.specs.declared.turn.Kind.TheVariants.{Subscriber}
use Rattle.zs_events.specs.declared.turn.Turn.{Turn}
use Rattle.zs_session_cell.specs.declared.entry.Entry.{Entry}

-- the subscriber that a hand-over is for, if it is for one
abbrev pub heard_by : Kind → ℕ → List ℕ
heard_by Subscriber id = id ∷ []
heard_by kind id = []

-- the subscriber that an item is handed to
abbrev pub handed_to : HandOver → List ℕ
handed_to (Sample kind id sample) = heard_by kind id
handed_to (Reply kind id reply) = []
handed_to (Query id value query) = []

-- the subscriber that an effect hands a sample to
abbrev pub given_to : Effect → List ℕ
given_to (Send message) = []
given_to (Hand item) = handed_to item
given_to (End kind id) = []
given_to (Matching id matching) = []

-- the subscribers that a turn hands samples to, in order
abbrev pub turn_hands : Turn → List ℕ
turn_hands turn = flat_map given_to turn.effects

-- those of all turns of a journal
abbrev pub hands_of : List Entry → List ℕ
hands_of entries = flat_map (λ entry. turn_hands entry.turn) entries
