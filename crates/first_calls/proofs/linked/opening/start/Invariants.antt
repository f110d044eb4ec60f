use Rattle.zs_core.specs.Settings.{default_settings}
use Rattle.first_calls.proofs.linked.opening.start.Given as goal

abbrev pub ghosts-run-E-EntryLedger : goal.ghosts-run-E-EntryLedger
ghosts-run-E-EntryLedger g a = record { settings = default_settings }

abbrev pub ghosts-run-E-Ledger : goal.ghosts-run-E-Ledger
ghosts-run-E-Ledger g a = record { name = a.entries.name; parts = a.entries.parts }

abbrev pub ghosts-run-S-Ledger : goal.ghosts-run-S-Ledger
ghosts-run-S-Ledger g a = record { name = a.sent.name; parts = a.sent.parts }

abbrev pub ghosts-run-D-Ledger : goal.ghosts-run-D-Ledger
ghosts-run-D-Ledger g a = record { name = a.drained.name; parts = a.drained.parts }
