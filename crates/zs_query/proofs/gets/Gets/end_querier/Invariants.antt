use Rattle.std.proofs.Common.{◌≡◌, length}
use Rattle.std.specs.Prelude.{filter, not}
use Rattle.zs_query.specs.declared.open_get.OpenGet.{OpenGet}
use Rattle.zs_query.specs.Gets.{names}
use Rattle.zs_query.proofs.gets.Gets.end_querier.Given as goal

abbrev pub invariant-gets : goal.invariant-gets
invariant-gets l = filter (λ (g : OpenGet). not (names l.id g.row.querier)) l.self-inside.gets ≡ filter (λ (g : OpenGet). not (names l.id g.row.querier)) l.fn.self

abbrev pub decreases-gets : goal.decreases-gets
decreases-gets l = length l.self-inside.gets
