use Rattle.std.proofs.Common.{◌≡◌, length}
use Rattle.std.specs.Prelude.{filter, not}
use Rattle.zs_query.specs.declared.open_get.OpenGet.{OpenGet}
use Rattle.zs_query.specs.Gets.{is_due}
use Rattle.zs_query.proofs.gets.Gets.note_tick.Given as goal

abbrev pub invariant-gets : goal.invariant-gets
invariant-gets l = filter (λ (g : OpenGet). not (is_due l.now g)) l.self-inside.gets ≡ filter (λ (g : OpenGet). not (is_due l.now g)) l.fn.self

abbrev pub decreases-gets : goal.decreases-gets
decreases-gets l = length l.self-inside.gets
