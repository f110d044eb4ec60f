-- How the recording of a journal is written.
use Rattle.std.specs.Prelude.{ℕ, ◌≡◌, ◌-◌, ◌≤◌, List, take, Option, Some, None, Result, IfErr, OnOk}
use Rattle.zs_keys.specs.Stream.{HasRisen, PutsOn}
use Rattle.zs_lines.specs.Writing.{PutsFrontOn}
use Rattle.zs_session_cell.specs.declared.entry.Entry.{Entry}
use Rattle.zs_recordings.specs.declared.error.RecordError.{RecordError}
use Rattle.zs_recordings.specs.declared.error.RecordError.TheVariants.{Unprintable, WriteFault}
use Rattle.zs_journals.specs.Journals.{journal_text, first_unprintable}

-- What a sink has taken, where it tells that, and how many faults it counts.
pub record Taken : Type 0 where
  pub written : Option (List ℕ)
  pub faults : ℕ

-- The recording of these entries was written, or not to its end, and this was answered.
pub record WritesJournal {A : Type 0} (entries : List Entry) (answer : Result A RecordError) (before after : Taken) : Type 0 where
  pub part : PutsFrontOn before.written (journal_text entries) after.written
  pub printable : OnOk answer (first_unprintable entries ≡ None)
  pub whole : OnOk answer (PutsOn before.written (journal_text entries) after.written)
  pub calm : OnOk answer (after.faults ≡ before.faults)
  pub unprintable : IfErr answer (λ error. (place : ℕ) → error ≡ Unprintable place → first_unprintable entries ≡ Some place)
  pub front : IfErr answer (λ error. (place : ℕ) → error ≡ Unprintable place → PutsOn before.written (journal_text (take (place - 1) entries)) after.written)
  pub fault : IfErr answer (λ error. error ≡ WriteFault → HasRisen before.faults after.faults)
  pub later : before.faults ≤ after.faults
