use Rattle.std.proofs.Common.{◌≡◌}
use Rattle.zs_cell.proofs.session.Session.take.Given as goal

abbrev pub invariant-loop : goal.invariant-loop
invariant-loop g l =
    (goal.iterator-loop g).can_next l.iterator' × (goal.iterator-loop g).is_finite l.iterator'
    × (l.handler ≡ l.fn.handler) × (l.caller ≡ l.fn.caller)
