use Rattle.first_calls.specs.Places.{there_settings}
use Rattle.first_calls.proofs.linked.opening.run_there.Given as goal

abbrev pub ghosts-open_there-E-EntryLedger : goal.ghosts-open_there-E-EntryLedger
ghosts-open_there-E-EntryLedger g a = record { settings = there_settings }

abbrev pub ghosts-open_there-E-Ledger : goal.ghosts-open_there-E-Ledger
ghosts-open_there-E-Ledger g a = record { name = a.entries.name; parts = a.entries.parts }

abbrev pub ghosts-open_there-S-Ledger : goal.ghosts-open_there-S-Ledger
ghosts-open_there-S-Ledger g a = record { name = a.sent.name; parts = a.sent.parts }

abbrev pub ghosts-open_there-D-Ledger : goal.ghosts-open_there-D-Ledger
ghosts-open_there-D-Ledger g a = record { name = a.drained.name; parts = a.drained.parts }
