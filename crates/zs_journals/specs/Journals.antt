-- The recording of a journal, which has the events that a session took with their turns.
use Rattle.std.specs.Prelude.{ℕ, ◌≡◌, ◌+◌, Bool, List, [], ◌∷◌, ◌++◌, map, Option, Some, None, option_map, if◌then◌else◌}
use Rattle.std.specs.List.{list_all}
use Rattle.zs_core.specs.Types.{Settings}
use Rattle.zs_events.specs.declared.event.Event.{Event}
use Rattle.zs_session_cell.specs.declared.entry.Entry.{Entry}
use Rattle.zs_session_cell.specs.Journals.{Follows}
use Rattle.zs_recordings.specs.Entries.{is_printable, entry_text}
use Rattle.zs_recordings.specs.Recording.{recording}

-- what is recorded of entries behind so many others
abbrev pub entries_text : ℕ → List Entry → List ℕ
entries_text before [] = []
entries_text before (entry ∷ more) = entry_text (before + 1) entry.event entry.turn ++ entries_text (before + 1) more

abbrev pub journal_text : List Entry → List ℕ
journal_text entries = entries_text 0 entries

-- whether lines say their events
abbrev pub are_printable : List Entry → Bool
are_printable entries = list_all (λ entry. is_printable entry.event) entries

-- the place of the first of which none does, from 1
abbrev pub next_place : Option ℕ → Option ℕ
next_place place = option_map (λ n. n + 1) place

abbrev pub first_unprintable : List Entry → Option ℕ
first_unprintable [] = None
first_unprintable (entry ∷ more) = if is_printable entry.event then next_place (first_unprintable more) else Some 1

-- the events of a journal, the oldest first
abbrev pub journal_events : List Entry → List Event
journal_events entries = map (λ entry. entry.event) entries

-- of the journal of a session it is the recording of its events
abbrev pub JournalsAreRecorded : Type 0
JournalsAreRecorded = (s : Settings) (entries : List Entry) → Follows s [] entries → journal_text entries ≡ recording s (journal_events entries)
