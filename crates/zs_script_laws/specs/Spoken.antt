-- What the events of lines send, and how whoever receives it reads it.
use Rattle.std.specs.Prelude.{◌≡◌, ℕ, true, List, [], ◌∷◌, Option, Some, None}
use Rattle.std.specs.List.{AllByRecursion}
use Rattle.zs_subscriptions.specs.Recipients.{has_network}
use Rattle.zs_events.specs.declared.event.Event.{Event}
use Rattle.zs_events.specs.declared.script_event.ScriptEvent.{ScriptEvent}
use Rattle.zs_events.specs.declared.script_event.ScriptEvent.TheVariants.{Core, Recv}
use Rattle.zs_model.specs.declared.settings.Settings.{Settings}
use Rattle.zs_model.specs.Covered.{IsCovered}
use Rattle.zs_model.specs.Effects.{effects}
use Rattle.zs_model.specs.Live.{live_subs}
use Rattle.zs_model.specs.Past.{past_of}
use Rattle.zs_model.specs.Received.{messages_of, sent, spoken_text, AreReadAs, AreSpelled}
use Rattle.zs_laws.specs.Spelled.{AllSpelled}
use Rattle.zs_grammar.specs.Grammar.{event_of}
use Rattle.zs_script.specs.Plain.{has_no_line_feed}

-- lines, as those of any input: none has a line feed
abbrev pub AreRows : List (List ℕ) → Type 0
AreRows rows = AllByRecursion (λ row. has_no_line_feed row ≡ true) rows

-- a history behind what a line says: a read of a channel is no event of the session
abbrev pub with_said : Option ScriptEvent → List Event → List Event
with_said (Some (Core e)) h = e ∷ h
with_said (Some (Recv kind id)) h = h
with_said None h = h

-- the session's events that lines say, the newest first in both
abbrev pub history_of : List (List ℕ) → List Event
history_of [] = []
history_of (row ∷ rows) = with_said (event_of row) (history_of rows)

-- their keys are spelled with characters
abbrev pub LinesAreSpelled : Type 0
LinesAreSpelled = (rows : List (List ℕ)) → AreRows rows → AllSpelled (history_of rows)

-- so each message that the event of a next line sends is read as what it means
abbrev pub SentByLinesIsRead : Type 0
SentByLinesIsRead =
    (s : Settings) (rows : List (List ℕ)) (row : List ℕ) (e : Event) → AreSpelled s → AreRows (row ∷ rows) → event_of row ≡ Some (Core e)
    → AreReadAs s (spoken_text (past_of s (history_of rows)) e) (sent s (history_of rows)) (messages_of (effects s (history_of rows) e).effects)

-- and each live subscriber that the network is told of is covered
abbrev pub SubscribersOfLinesAreCovered : Type 0
SubscribersOfLinesAreCovered =
    (s : Settings) (rows : List (List ℕ)) → AreSpelled s → AreRows rows
    → AllByRecursion (λ row. has_network row.origin ≡ true → IsCovered (sent s (history_of rows)) row.key.text) (live_subs (past_of s (history_of rows)))
