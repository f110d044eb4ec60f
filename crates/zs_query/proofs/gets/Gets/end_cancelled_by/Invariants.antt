use Rattle.std.proofs.Common.{◌≡◌, length}
use Rattle.std.specs.Prelude.{filter, not}
use Rattle.zs_query.specs.declared.open_get.OpenGet.{OpenGet}
use Rattle.zs_query.specs.Gets.{names}
use Rattle.zs_query.proofs.gets.Gets.end_cancelled_by.Given as goal

abbrev pub invariant-gets : goal.invariant-gets
invariant-gets l = filter (λ (g : OpenGet). not (names l.cancellation_token g.row.cancellation_token)) l.self-inside.gets ≡ filter (λ (g : OpenGet). not (names l.cancellation_token g.row.cancellation_token)) l.fn.self

abbrev pub decreases-gets : goal.decreases-gets
decreases-gets l = length l.self-inside.gets
