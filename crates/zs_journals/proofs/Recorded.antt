-- What is written of a journal, entry by entry, and that it is the recording of its events.
use Rattle.std.proofs.Common.{ℕ, suc, zero, ◌≡◌, ◌+◌, ◌<◌, true, false, List, [], ◌∷◌, ◌++◌, length, take, get_or, Some, None, refl, sym, ◌∙◌, ap, arith, append_assoc}
use Rattle.std.proofs.lemmas.Bool.{and_parts}
use Rattle.std.proofs.lemmas.List.{append-nil}
use Rattle.zs_core.specs.Types.{Settings}
use Rattle.zs_core.specs.Effects.{effects}
use Rattle.zs_events.specs.declared.event.Event.{Event}
use Rattle.zs_events.specs.declared.turn.Turn.{Turn}
use Rattle.zs_session_cell.specs.declared.entry.Entry.{Entry}
use Rattle.zs_session_cell.specs.Core.{turn_at}
use Rattle.zs_session_cell.specs.Journals.{Follows}
use Rattle.zs_recordings.specs.Entries.{is_printable, entry_text}
use Rattle.zs_recordings.specs.Recording.{recording_after}
use Rattle.zs_journals.specs.Journals.{entries_text, are_printable, first_unprintable, next_place, journal_events, JournalsAreRecorded}

-- one entry more
pub text-push : (before : ℕ) (entries : List Entry) (entry : Entry)
    → entries_text before (entries ++ entry ∷ []) ≡ entries_text before entries ++ entry_text (before + length entries + 1) entry.event entry.turn
text-push before [] entry =
    let none : before + 1 ≡ before + 0 + 1 = omega arith in
    append-nil (entry_text (before + 1) entry.event entry.turn) ∙ ap (λ (n : ℕ). entry_text n entry.event entry.turn) none
text-push before (first ∷ entries) entry =
    let place : before + 1 + length entries + 1 ≡ before + suc (length entries) + 1 = omega arith in
    ap (λ (more : List ℕ). entry_text (before + 1) first.event first.turn ++ more) (text-push (before + 1) entries entry)
    ∙ sym (append_assoc (entry_text (before + 1) first.event first.turn) (entries_text (before + 1) entries)
    (entry_text (before + 1 + length entries + 1) entry.event entry.turn))
    ∙ ap (λ (n : ℕ). (entry_text (before + 1) first.event first.turn ++ entries_text (before + 1) entries) ++ entry_text n entry.event entry.turn) place

-- lines say all of the events, or not that of some entry
pub none-unprintable : (entries : List Entry) → are_printable entries ≡ true → first_unprintable entries ≡ None
none-unprintable [] h = refl
none-unprintable (entry ∷ more) h =
    let both = and_parts (is_printable entry.event) _ h in
    rw both.0 (ap next_place (none-unprintable more both.1))

pub here-unprintable : (entries : List Entry) (place : ℕ) (default : Entry) → place < length entries → are_printable (take place entries) ≡ true
    → is_printable (get_or entries place default).event ≡ false → first_unprintable entries ≡ Some (place + 1)
here-unprintable [] place default less h k = absurd (omega (arith, less))
here-unprintable (entry ∷ more) zero default less h k = rw k refl
here-unprintable (entry ∷ more) (suc place) default less h k =
    let both = and_parts (is_printable entry.event) _ h in
    let next : place + 1 + 1 ≡ suc place + 1 = omega arith in
    rw both.0 (ap next_place (here-unprintable more place default (omega (arith, less)) both.1 k) ∙ ap Some next)

-- of the journal of a session it is the recording of its events
recorded : (s : Settings) (h : List Event) (entries : List Entry) → Follows s h entries
    → entries_text (length h) entries ≡ recording_after s h (journal_events entries)
unfolding turn_at
recorded s h [] f = refl
recorded s h (entry ∷ more) f =
    let count : length h + 1 ≡ suc (length h) = omega arith in
    ap (λ (turn : Turn). entry_text (length h + 1) entry.event turn ++ entries_text (length h + 1) more) f.0
    ∙ ap (λ (n : ℕ). entry_text (length h + 1) entry.event (effects s h entry.event) ++ entries_text n more) count
    ∙ ap (λ (rest : List ℕ). entry_text (length h + 1) entry.event (effects s h entry.event) ++ rest) (recorded s (entry.event ∷ h) more f.1)

pub journals-recorded : JournalsAreRecorded
journals-recorded s entries f = recorded s [] entries f
