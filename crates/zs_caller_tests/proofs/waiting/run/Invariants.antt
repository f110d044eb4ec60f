use Rattle.zs_core.specs.Settings.{default_settings}
use Rattle.zs_caller_tests.proofs.waiting.run.Given as goal

abbrev pub ghosts-open-E-EntryLedger : goal.ghosts-open-E-EntryLedger
ghosts-open-E-EntryLedger g a = record { settings = default_settings }

abbrev pub ghosts-open-E-Ledger : goal.ghosts-open-E-Ledger
ghosts-open-E-Ledger g a = record { name = a.entries.name; parts = a.entries.parts }

abbrev pub ghosts-open-S-Ledger : goal.ghosts-open-S-Ledger
ghosts-open-S-Ledger g a = record { name = a.sent.name; parts = a.sent.parts }

abbrev pub ghosts-open-D-Ledger : goal.ghosts-open-D-Ledger
ghosts-open-D-Ledger g a = record { name = a.drained.name; parts = a.drained.parts }
