use Rattle.std.proofs.Common.{◌≡◌, true, take}
use Rattle.zs_keys.specs.Stream.{PutsOn}
use Rattle.zs_journals.specs.Journals.{journal_text, are_printable}
use Rattle.zs_journals.proofs.writing.write_recording.Given as goal

abbrev pub invariant-loop-entry : goal.invariant-loop-entry
invariant-loop-entry g l =
    (l.written ≡ l.entry-index)
    × ((are_printable (take l.entry-index l.entries) ≡ true)
    × (PutsOn (g.K.Sink.written l.fn.sink) (journal_text (take l.entry-index l.entries)) (g.K.Sink.written l.sink)
    × (g.K.Sink.faults l.sink ≡ g.K.Sink.faults l.fn.sink)))
