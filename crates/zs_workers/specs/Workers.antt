-- What a run of callers that put beside each other comes to.
use Rattle.std.specs.Prelude.{◌≡◌, ℕ, ◌+◌, ◌*◌, List, [], length}
use Rattle.zs_core.specs.Types.{Settings}
use Rattle.zs_core.specs.Settings.{default_settings}
use Rattle.zs_session_cell.specs.declared.entry.Entry.{Entry}
use Rattle.zs_session_cell.specs.Journals.{Follows}
use Rattle.zs_books.specs.Callers.{CallerSeen}
use Rattle.zs_held.specs.Receipts.{ReceiptSeen}
use Rattle.zs_workers.specs.declared.tally.Workers.{Workers}
use Rattle.zs_workers.specs.declared.tally.Worked.{Worked}
use Rattle.zs_workers.specs.HandOvers.{hands_of}

-- a caller counts so many events more, with as many parts
pub record Counts (events : ℕ) (old : CallerSeen ReceiptSeen) (new : CallerSeen ReceiptSeen) : Type 0 where
  pub parts_are : new.parts ≡ old.parts
  pub count_is : new.count ≡ old.count + events

-- a caller that has one part and counts nothing yet
pub record IsNew (caller : CallerSeen ReceiptSeen) : Type 0 where
  pub parts_are : caller.parts ≡ 1
  pub count_is : caller.count ≡ 0

-- such a caller that counts so many events
pub record HasPut (events : ℕ) (caller : CallerSeen ReceiptSeen) : Type 0 where
  pub parts_are : caller.parts ≡ 1
  pub count_is : caller.count ≡ events

-- a caller gave so many parts away
pub record Lends (parts : ℕ) (old : CallerSeen ReceiptSeen) (new : CallerSeen ReceiptSeen) : Type 0 where
  pub parts_are : new.parts + parts ≡ old.parts
  pub count_is : new.count ≡ old.count

-- a session with these settings took so many events, its callers count as many, and what was counted of hand-overs is what a
-- copy of its journal names: so many entries, each turn that of its event behind the events before it
pub record ComesTo (s : Settings) (events : ℕ) (worked : Worked) : Type 0 where
  pub entries_are : worked.entries ≡ events
  pub shares_are : worked.shares ≡ events
  pub journal : List Entry
  pub follows : Follows s [] journal
  pub length_is : length journal ≡ events
  pub handed_are : worked.handed ≡ length (hands_of journal)

-- how many events a run has: its puts, the declaration before them, and the close behind them
abbrev pub events_of : Workers → ℕ
events_of workers = workers.callers * workers.puts + 2

-- the run of these callers, with the default settings
abbrev pub IsWorked : Workers → Worked → Type 0
IsWorked workers worked = ComesTo default_settings (events_of workers) worked
