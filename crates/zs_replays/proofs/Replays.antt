-- The turns of a script's events have plain texts, and so its recording is played again as the same.
use Rattle.std.proofs.Common.{◌≡◌, ◌+◌, ℕ, suc, List, [], ◌∷◌, ◌++◌, length, Bool, true, false, Option, Some, None, refl, sym, ◌∙◌, ap, subst, arith}
use Rattle.std.specs.Prelude.{is_some}
use Rattle.std.specs.List.{AllByRecursion, filter_map, list_all}
use Rattle.std.proofs.lemmas.Bool.{and_parts, and_from}
use Rattle.std.proofs.lemmas.List.{append-nil}
use Rattle.zs_lines.specs.Lines.{lines}
use Rattle.zs_driving.specs.Driving.{AreGood}
use Rattle.zs_driving.specs.Tasks.{Task, is_good}
use Rattle.zs_events.specs.declared.event.Event.{Event}
use Rattle.zs_events.specs.declared.event.Event.TheVariants.{Close}
use Rattle.zs_events.specs.declared.script_event.ScriptEvent.TheVariants.{Core}
use Rattle.zs_events.specs.declared.turn.Effect.{Effect}
use Rattle.zs_core.specs.Types.{Settings}
use Rattle.zs_core.specs.Effects.{effects}
use Rattle.zs_core.specs.Past.{past_of}
use Rattle.zs_core.specs.Received.{AreSpelled}
use Rattle.zs_grammar.specs.Grammar.{event_of}
use Rattle.zs_script.specs.Plain.{has_no_line_feed, is_plain_event, is_plain_effect}
use Rattle.zs_script.proofs.PlainTexts.{lines-no-feed}
use Rattle.zs_script.proofs.PlainEvents.{events-plain}
use Rattle.zs_session.proofs.PlainKeys.{PlainEvents, past_plain}
use Rattle.zs_session.proofs.Telling.{PlainEffects, plain_turn_effects}
use Rattle.zs_recordings.specs.Entries.{recorded_of}
use Rattle.zs_recordings.specs.Recording.{AreTexts, recording, recorded_script, record_task, IsRecorded}
use Rattle.zs_recordings.specs.Laws.{AreReadable, ReplaysAs, ArePlainTurns}
use Rattle.zs_recordings.proofs.Again.{fronts-replay, recordings-replay}
use Rattle.zs_recordings.proofs.Readable.{said-event, scripts-readable}
use Rattle.zs_replays.specs.Laws.{FirstReplay, ScriptsReplay, RunsReplay}

all-plain : (fx : List Effect) → PlainEffects fx → list_all is_plain_effect fx ≡ true
all-plain [] plain = refl
all-plain (effect ∷ fx) plain = and_from (is_plain_effect effect) (list_all is_plain_effect fx) plain.0 (all-plain fx plain.1)

plain-turns : (s : Settings) → AreSpelled s → (h es : List Event) → PlainEvents h → PlainEvents es → ArePlainTurns s h es
plain-turns s spelled h [] before plain = tt
plain-turns s spelled h (e ∷ es) before plain = (
  all-plain (effects s h e).effects (plain_turn_effects s spelled (past_of s h) e (past_plain s h before) plain.0),
  plain-turns s spelled (e ∷ h) es (plain.0, before) plain.1,
)

-- the events of rows, and the close
rows-plain : (rows : List (List ℕ)) → list_all has_no_line_feed rows ≡ true → PlainEvents (filter_map recorded_of rows ++ Close ∷ [])
rows-plain [] one = (refl, tt)
rows-plain (row ∷ rows) one =
    let feeds = and_parts (has_no_line_feed row) (list_all has_no_line_feed rows) one in
    go (recorded_of row) refl feeds.0 (rows-plain rows feeds.1)
  where
    go : (o : Option Event) → recorded_of row ≡ o → has_no_line_feed row ≡ true → PlainEvents (filter_map recorded_of rows ++ Close ∷ [])
        → PlainEvents (filter_map recorded_of (row ∷ rows) ++ Close ∷ [])
    go None is one plain =
        let more : filter_map recorded_of (row ∷ rows) ≡ filter_map recorded_of rows = rw is refl in
        subst (λ (es : List Event). PlainEvents (es ++ Close ∷ [])) (sym more) plain
    go (Some e) is one plain =
        let more : filter_map recorded_of (row ∷ rows) ≡ e ∷ filter_map recorded_of rows = rw is refl in
        subst (λ (es : List Event). PlainEvents (es ++ Close ∷ [])) (sym more)
        (events-plain row (Core e) one (said-event (event_of row) e is), plain)

readable : (s : Settings) (input : List ℕ) → AreSpelled s → list_all (λ row. is_some (recorded_of row)) (lines input) ≡ true
    → AreTexts s [] (recorded_script input) → AreReadable s [] (recorded_script input)
readable s input spelled all texts =
    scripts-readable s input all (plain-turns s spelled [] (recorded_script input) tt (rows-plain (lines input) (lines-no-feed input))) texts

pub scripts-replay : ScriptsReplay
scripts-replay s input spelled all texts first more cut =
    let are : AreReadable s [] (first ++ more) = subst (λ (es : List Event). AreReadable s [] es) cut (readable s input spelled all texts) in
    let front = fronts-replay s first more are in
    ((front.0.0, ap (recording s) cut ∙ front.0.1), front.1)

-- of a run
all-recorded : (s : Settings) (rows : List (List ℕ)) → AreGood (record_task s) rows → list_all (λ row. is_some (recorded_of row)) rows ≡ true
all-recorded s [] good = refl
all-recorded s (row ∷ rows) good =
    and_from (is_some (recorded_of row)) (list_all (λ row. is_some (recorded_of row)) rows)
    (and_parts (is_some (recorded_of row)) _ good.0).0 (all-recorded s rows good.1)

events-are : (rows : List (List ℕ)) → list_all (λ row. is_some (recorded_of row)) rows ≡ true → length (filter_map recorded_of rows ++ Close ∷ []) ≡ length rows + 1
events-are [] all = refl
events-are (row ∷ rows) all =
    let are = and_parts (is_some (recorded_of row)) (list_all (λ row. is_some (recorded_of row)) rows) all in
    go (recorded_of row) refl are.0 (events-are rows are.1)
  where
    go : (o : Option Event) → recorded_of row ≡ o → is_some (recorded_of row) ≡ true → length (filter_map recorded_of rows ++ Close ∷ []) ≡ length rows + 1
        → length (filter_map recorded_of (row ∷ rows) ++ Close ∷ []) ≡ length (row ∷ rows) + 1
    go None is so count = let no : is_some (recorded_of row) ≡ false = ap (λ (o : Option Event). is_some o) is in cc
    go (Some e) is so count =
        let more : filter_map recorded_of (row ∷ rows) ≡ e ∷ filter_map recorded_of rows = rw is refl in
        let next : suc (length rows + 1) ≡ length (row ∷ rows) + 1 = omega arith in
        ap (λ (es : List Event). length (es ++ Close ∷ [])) more ∙ ap (λ (n : ℕ). suc n) count ∙ next

pub runs-replay : RunsReplay
runs-replay s left left' from to count spelled run =
    let all = all-recorded s (lines run.input) run.good in
    let same = recordings-replay s (recorded_script run.input) (readable s run.input spelled all run.texts) in
    let are : length (recorded_script run.input) ≡ count = events-are (lines run.input) all ∙ sym run.events in
    subst (λ (n : ℕ). ReplaysAs s run.output n) are
    (subst (λ (text : List ℕ). ReplaysAs s text (length (recorded_script run.input))) (sym run.whole) same)
