-- What was recorded of scripts is played again as the same.
use Rattle.std.specs.Prelude.{◌≡◌, ℕ, true, is_some, List, [], ◌++◌, length, Option}
use Rattle.std.specs.List.{list_all}
use Rattle.zs_keys.specs.Stream.{PutsOn}
use Rattle.zs_lines.specs.Lines.{lines}
use Rattle.zs_events.specs.declared.event.Event.{Event}
use Rattle.zs_core.specs.Types.{Settings}
use Rattle.zs_core.specs.Received.{AreSpelled}
use Rattle.zs_recordings.specs.Entries.{recorded_of}
use Rattle.zs_recordings.specs.Recording.{AreTexts, recording, recorded_script, IsRecorded}
use Rattle.zs_recordings.specs.Laws.{ReplaysAs}

-- the first of a script's events, in their order, have a recording that is a front of the whole one, and it is played again
-- as the same
abbrev pub FirstReplay : Settings → List Event → List Event → List Event → Type 0
FirstReplay s all first more = all ≡ first ++ more
    → ((rest : List ℕ) × (recording s all ≡ recording s first ++ rest)) × ReplaysAs s (recording s first) (length first)

-- of a script whose lines are events that can be recorded, by settings whose texts are UTF-8
abbrev pub ScriptsReplay : Type 0
ScriptsReplay = (s : Settings) (input : List ℕ) → AreSpelled s → list_all (λ row. is_some (recorded_of row)) (lines input) ≡ true
    → AreTexts s [] (recorded_script input) → (first more : List Event) → FirstReplay s (recorded_script input) first more

-- of what a run put out that came to its end
abbrev pub RunsReplay : Type 0
RunsReplay = (s : Settings) (left left' from to : Option (List ℕ)) (count : ℕ) → AreSpelled s
    → (run : IsRecorded s left left' (λ output. PutsOn from output to) count) → ReplaysAs s run.output count
