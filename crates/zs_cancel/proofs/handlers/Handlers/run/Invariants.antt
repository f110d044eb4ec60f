use Rattle.std.proofs.Common.{◌≡◌, List, length}
use Rattle.std.specs.Vec.Iter.{into_iter_len, into_iter_items}
use Rattle.zs_cancel.specs.declared.entry.Entry.{Entry}
use Rattle.zs_cancel.specs.declared.outcome.Outcome.{Outcome}
use Rattle.zs_cancel.specs.Runs.{Runs}
use Rattle.zs_cancel.proofs.handlers.Handlers.run.Given as goal

abbrev pub invariant-loop-number : goal.invariant-loop-number
invariant-loop-number g l =
    (into_iter_len l.self-inside.entries ≡ length (into_iter_items l.self-inside.entries))
    × ((outcome : Outcome) (rest : List (Entry g.row.J.Denot)) → Runs g.J.Job.fails (into_iter_items l.self-inside.entries) outcome rest → Runs g.J.Job.fails l.fn.self outcome rest)

abbrev pub decreases-loop-number : goal.decreases-loop-number
decreases-loop-number g l = into_iter_len l.self-inside.entries
