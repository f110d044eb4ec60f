use Rattle.std.proofs.Common.{◌≡◌, ℕ, List, [], ◌∷◌, true, Option, Some, None, refl}
use Rattle.std.specs.List.{list_all}
use Rattle.zs_events.specs.declared.script_event.ScriptEvent.{ScriptEvent}
use Rattle.zs_events.specs.declared.script_event.ScriptEvent.TheVariants.{Core}
use Rattle.zs_core.specs.Types.{Settings}
use Rattle.zs_events.specs.declared.event.Event.TheVariants.{Close}
use Rattle.zs_lines.specs.Lines.{lines}
use Rattle.zs_grammar.specs.Grammar.{event_of}
use Rattle.zs_script.specs.Plain.{is_plain_script_event, has_no_line_feed}
use Rattle.zs_script.proofs.PlainTexts.{lines-no-feed}
use Rattle.zs_script.proofs.PlainEvents.{events-plain}
use Rattle.zs_driving.proofs.Progress.{all_append}
use Rattle.zs_session.proofs.Cutting.{both}
use Rattle.zs_session.specs.Script.{events_of, script, text}
use Rattle.zs_core.specs.Received.{AreSpelled}
use Rattle.zs_session.specs.Telling.{Told, told}
use Rattle.zs_session.proofs.ReadsTold.{PlainScript, text_told}

-- the events of lines without line feeds are plain
plain_events : (rows : List (List ℕ)) → list_all has_no_line_feed rows ≡ true → PlainScript (events_of rows)
plain_events [] all = tt
plain_events (row ∷ rows) all =
    let parts = both (has_no_line_feed row) (list_all has_no_line_feed rows) all in
    go (event_of row) refl parts.0 (plain_events rows parts.1)
  where
    go : (o : Option ScriptEvent) → event_of row ≡ o → has_no_line_feed row ≡ true → PlainScript (events_of rows)
        → PlainScript (events_of (row ∷ rows))
    go (Some e) found unbroken ih = rw found (events-plain row e unbroken found, ih)
    go None found unbroken ih = rw found ih

-- the events of a script have no text with a tab or a line feed
plain_script : (input : List ℕ) → PlainScript (script input)
plain_script input =
    all_append (λ e. is_plain_script_event e ≡ true) (events_of (lines input)) (Core Close ∷ []) (plain_events (lines input) (lines-no-feed input)) (refl, tt)

-- the text of every script tells it
pub script_told : (s : Settings) (input : List ℕ) → AreSpelled s → Told s (script input) (told (text s (script input)))
script_told s input spelled = text_told s spelled [] (script input) tt (plain_script input)
