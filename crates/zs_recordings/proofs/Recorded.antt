-- What a recorder owes for a row, from what became of the event that it says; and what a run by one says of the script.
use Rattle.std.proofs.Common.{◌≡◌, ◌+◌, ℕ, suc, List, [], ◌∷◌, ◌++◌, length, true, false, Option, Some, None, refl, sym, ◌∙◌, ap, subst, append_assoc}
use Rattle.std.specs.Prelude.{is_some, unwrap_or, Result, Err, IsErrAnd}
use Rattle.std.proofs.lemmas.Result.{err_from_is_err_and}
use Rattle.std.specs.Option.{IfSome}
use Rattle.std.specs.Str.{is_utf8}
use Rattle.std.proofs.lemmas.List.{append-nil}
use Rattle.zs_driving.specs.declared.driving.Driven.{Driven}
use Rattle.zs_driving.specs.declared.errors.DriveError.{DriveError}
use Rattle.zs_driving.specs.declared.errors.DriveError.TheVariants.{NoMemory}
use Rattle.zs_driving.specs.Tasks.{Rules, task_of, lines_behind, closed_text}
use Rattle.zs_driving.specs.Driving.{Drives, DrivesTo, IsDone, Supply, Outlet}
use Rattle.zs_driving.specs.Languages.{text_of, events_of, rules_of, events_behind, events_text}
use Rattle.zs_driving.proofs.Languages.{texts_are}
use Rattle.zs_driving.proofs.Exits.{retold, unstarted}
use Rattle.zs_lines.specs.Lines.{lines}
use Rattle.zs_events.specs.declared.event.Event.{Event}
use Rattle.zs_events.specs.declared.event.Event.TheVariants.{Close}
use Rattle.zs_core.specs.Types.{Settings}
use Rattle.zs_core.specs.Effects.{effects}
use Rattle.zs_core.specs.Stands.{Stands, TakesStep}
use Rattle.zs_core.specs.World.{World}
use Rattle.zs_events.specs.declared.turn.Turn.{Turn}
use Rattle.zs_recordings.proofs.Printed.{row_is, known_told, if_said}
use Rattle.zs_recordings.proofs.Texts.{texts_found}
use Rattle.zs_recordings.specs.Entries.{event_row, turn_rows, entry_text, recorded_of}
use Rattle.zs_recordings.specs.Recording.{recording_after, recording, AreTexts, recorded_script, record_language, record_task, IsRecorded, Recorded}
use Rattle.zs_recordings.specs.Laws.{read_events, RunsRecord}
use Rattle.zs_recordings.specs.Machines.{Records, AreRowTexts, AllAreTexts, IsBehind}
use Rattle.zs_recordings.specs.declared.recorder.Recorder.{Recorder}

module _ (machine : Recorder) (r : Rules) (h : List (List ℕ)) (number : ℕ) (before after : List ℕ) (behind : IsBehind machine r h) (number_is : number ≡ length h + 1) where
  pub took_text : (new : World) (row : List ℕ) → is_some (recorded_of row) ≡ true → IfSome (recorded_of row) (λ e. Records e number machine.state new before after)
      → after ≡ before ++ r.line_text h row
  took_text new row taken takes =
      go (recorded_of row) taken takes ∙ ap (λ (rules : Rules). before ++ rules.line_text h row) (sym behind.rules)
    where
      go : (o : Option Event) → is_some o ≡ true → IfSome o (λ e. Records e number machine.state new before after)
          → after ≡ before ++ text_of (record_language behind.settings) (events_of (record_language behind.settings) h) o
      go None so takes = cc
      go (Some e) so takes =
          let es = events_of (record_language behind.settings) h in
          takes.text behind.settings es behind.stands
          ∙ ap (λ (n : ℕ). before ++ entry_text n e (effects behind.settings es e)) (number_is ∙ ap (λ (n : ℕ). n + 1) (sym behind.each))

  number_next : length (events_of (record_language behind.settings) h) + 1 ≡ number
  number_next = ap (λ (n : ℕ). n + 1) behind.each ∙ sym number_is

  took_utf8 : (new : World) (row : List ℕ) (e : Event) → recorded_of row ≡ Some e → Records e number machine.state new before after
      → is_utf8 (r.line_text h row) ≡ true
  took_utf8 new row e is takes =
      let l = record_language behind.settings in
      let es = events_of l h in
      ap (λ (rules : Rules). is_utf8 (rules.line_text h row)) behind.rules
      ∙ ap (λ (o : Option Event). is_utf8 (text_of l es o)) is
      ∙ ap (λ (n : ℕ). is_utf8 (entry_text n e (effects behind.settings es e))) number_next
      ∙ takes.utf8 behind.settings es behind.stands

  pub took_on : (new : Recorder) (row : List ℕ) → is_some (recorded_of row) ≡ true → IfSome (recorded_of row) (λ e. Records e number machine.state new.state before after)
      → IsBehind new r (row ∷ h)
  took_on new row taken takes = go (recorded_of row) refl taken takes
    where
      go : (o : Option Event) → recorded_of row ≡ o → is_some o ≡ true → IfSome o (λ e. Records e number machine.state new.state before after) → IsBehind new r (row ∷ h)
      go None is so takes = cc
      go (Some e) is so takes =
          let l = record_language behind.settings in
          let more : events_of l (row ∷ h) ≡ e ∷ events_of l h = rw is refl in
          record {
            settings = behind.settings;
            rules = behind.rules;
            each = ap length more ∙ ap (λ (n : ℕ). suc n) behind.each;
            stands = subst (λ (es : List Event). Stands new.state behind.settings es) (sym more) (takes.stands behind.settings (events_of l h) behind.stands);
            texts = (took_utf8 new.state row e is takes, behind.texts);
          }

  pub took_end : (new : World) → Records Close number machine.state new before after → after ≡ before ++ r.end_text h
  took_end new takes =
      let es = events_of (record_language behind.settings) h in
      takes.text behind.settings es behind.stands
      ∙ ap (λ (n : ℕ). before ++ entry_text n Close (effects behind.settings es Close)) (number_is ∙ ap (λ (n : ℕ). n + 1) (sym behind.each))
      ∙ ap (λ (rules : Rules). before ++ rules.end_text h) (sym behind.rules)

  pub took_last : (new : World) → Records Close number machine.state new before after → AllAreTexts r h
  took_last new takes =
      let es = events_of (record_language behind.settings) h in record {
        last =
            ap (λ (rules : Rules). is_utf8 (rules.end_text h)) behind.rules
            ∙ ap (λ (n : ℕ). is_utf8 (entry_text n Close (effects behind.settings es Close))) number_next
            ∙ takes.utf8 behind.settings es behind.stands;
        rows = behind.texts;
      }

pub ruleset owed = (took_text, took_on, took_end, took_last)

-- an event was stepped by, and its entry was added
pub records_step : (e : Event) (number : ℕ) (old new : World) (before after : List ℕ) (turn : Turn) (printed : List ℕ) → TakesStep old new e turn
    → Some printed ≡ event_row e → after ≡ before ++ (printed ++ turn_rows number turn) → is_utf8 (printed ++ turn_rows number turn) ≡ true
    → Records e number old new before after
records_step e number old new before after turn printed steps row put utf8 = record {
  text = λ s h st.
      put
      ∙ ap (λ (o : Option (List ℕ)). before ++ (unwrap_or o [] ++ turn_rows number turn)) row
      ∙ ap (λ (t : Turn). before ++ entry_text number e t) (steps s h st).0;
  utf8 = λ s h st.
      ap (λ (t : Turn). is_utf8 (entry_text number e t)) (sym (steps s h st).0)
      ∙ ap (λ (o : Option (List ℕ)). is_utf8 (unwrap_or o [] ++ turn_rows number turn)) (sym row)
      ∙ utf8;
  stands = λ s h st. (steps s h st).1;
}

pub ruleset stepping = (records_step)

pub ruleset taking = (row_is, known_told, if_said)

-- a new recorder records by the language of its settings
pub settings_are : (w : World) (s : Settings) → Stands w s [] → w.settings ≡ s
settings_are w s stands = ap (λ (x : World). x.settings) stands

pub behind_none : (machine : Recorder) (s : Settings) → Stands machine.state s [] → IsBehind machine (rules_of (record_language machine.state.settings)) []
behind_none machine s stands = record {
  settings = s;
  rules = ap (λ (t : Settings). rules_of (record_language t)) (settings_are machine.state s stands);
  each = refl;
  stands = stands;
  texts = tt;
}

-- what is put out for all rows is the recording of the script
text_is : (s : Settings) (h es : List Event) → events_text (record_language s) h es ≡ recording_after s h es
text_is s h [] = refl
text_is s h (e ∷ es) = ap (λ (more : List ℕ). entry_text (length h + 1) e (effects s h e) ++ more) (text_is s (e ∷ h) es)

text_push : (s : Settings) (h es : List Event) (e : Event)
    → recording_after s h (es ++ e ∷ []) ≡ recording_after s h es ++ entry_text (length (events_behind h es) + 1) e (effects s (events_behind h es) e)
text_push s h [] e = append-nil (entry_text (length h + 1) e (effects s h e))
text_push s h (first ∷ es) e =
    ap (λ (more : List ℕ). entry_text (length h + 1) first (effects s h first) ++ more) (text_push s (first ∷ h) es e)
    ∙ sym (append_assoc (entry_text (length h + 1) first (effects s h first)) (recording_after s (first ∷ h) es)
    (entry_text (length (events_behind (first ∷ h) es) + 1) e (effects s (events_behind (first ∷ h) es) e)))

all_are : (s : Settings) (rows : List (List ℕ)) → closed_text (rules_of (record_language s)) rows ≡ recording s (read_events rows true)
all_are s rows =
    let es = events_of (record_language s) rows in
    let h = events_behind [] es in
    (texts_are (record_language s) rows).1
    ∙ (ap (λ (more : List ℕ). more ++ entry_text (length h + 1) Close (effects s h Close)) (text_is s [] es)
    ∙ sym (text_push s [] es Close))

-- and for those that were read
pub runs-record : RunsRecord
runs-record s rows true = all_are s rows
runs-record s rows false =
    let es = events_of (record_language s) rows in
    (texts_are (record_language s) rows).0 ∙ text_is s [] es ∙ ap (recording s) (sym (append-nil es))

-- what the machine says of rows that it took, and of the end
abbrev IsText : Settings → List (List ℕ) → Type 0
IsText t rows = AllAreTexts (rules_of (record_language t)) (lines_behind [] rows)

done_told : (s : Settings) (left left' : Option (List ℕ)) (Puts : List ℕ → Type 0) (count : ℕ)
    → IsDone (record_task s) left left' Puts (IsText s) count → IsRecorded s left left' Puts count
done_told s left left' Puts count d = record {
  input = d.input;
  output = d.output;
  source = d.source;
  spent = d.spent;
  good = d.good;
  sink = d.sink;
  whole = d.whole ∙ all_are s (lines d.input);
  texts = texts_found s (lines d.input) d.machine;
  events = d.events;
}

pub records_script : (s t : Settings) (answer : Result Driven DriveError) (before after : Supply) (from to : Outlet) (Puts : List ℕ → Type 0)
    → t ≡ s
    → Drives (task_of (λ row. is_some (recorded_of row)) (rules_of (record_language t)) s.line_max s.turns) (IsText t) answer before after from to Puts
    → DrivesTo (record_task s) (IsRecorded s before.left after.left Puts) answer before after from to Puts
records_script s t answer before after from to Puts same d =
    let P : Settings → Type 0 = λ x. Drives (task_of (λ row. is_some (recorded_of row)) (rules_of (record_language x)) s.line_max s.turns) (IsText x) answer before after from to Puts in
    let k = record_task s in
    retold k k.text k.whole Puts Puts (λ rows. refl) (λ rows. refl) (λ output put. put)
    (IsDone k before.left after.left Puts (IsText s)) (IsRecorded s before.left after.left Puts) answer before after from to
    (done_told s before.left after.left Puts) (subst P same d)

-- no run was begun, for want of memory
pub unrecorded : (s : Settings) (r : Result Driven DriveError) (before : Supply) (from : Outlet) → IsErrAnd r (λ y. y ≡ NoMemory)
    → Recorded s r before before from from
unrecorded s r before from now =
    let p = err_from_is_err_and r now in
    subst (λ (x : Result Driven DriveError). Recorded s x before before from from) (sym (p.1 ∙ ap (λ y. Err y) p.2)) (record {
      drives = unstarted (record_task s) _ refl before from;
      completes = λ input holds valid read write. refl;
    })
