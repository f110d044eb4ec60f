use Rattle.std.proofs.Common.{◌-◌, ◌≤◌}
use Rattle.zs_rows.specs.Index.{NotesFrom}
use Rattle.zs_rows.proofs.index.Index.note_all.Given as goal

abbrev pub invariant-numbers : goal.invariant-numbers
invariant-numbers l = NotesFrom l.key l.first l.number l.initial.self l.self × (l.first ≤ l.number) × (l.number ≤ l.end)

abbrev pub decreases-numbers : goal.decreases-numbers
decreases-numbers l = l.end - l.number
