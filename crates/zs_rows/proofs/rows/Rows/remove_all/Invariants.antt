use Rattle.std.proofs.Common.{◌≡◌, ◌-◌, ◌≤◌}
use Rattle.std.specs.Prelude.{filter, not}
use Rattle.zs_rows.specs.Rows.{is_between}
use Rattle.zs_rows.proofs.rows.Rows.remove_all.Given as goal

abbrev pub invariant-numbers : goal.invariant-numbers
invariant-numbers g l = (l.self ≡ filter (λ e. not (is_between l.first l.number e.0)) l.initial.self) × (l.first ≤ l.number) × (l.number ≤ l.end)

abbrev pub decreases-numbers : goal.decreases-numbers
decreases-numbers g l = l.end - l.number
