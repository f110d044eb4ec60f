use Rattle.std.proofs.Common.{◌≡◌}
use Rattle.zs_cell.proofs.session.Session.add.Given as goal

abbrev pub invariant-loop : goal.invariant-loop
invariant-loop g l =
    (goal.iterator-loop g).can_next l.iterator' × (goal.iterator-loop g).is_finite l.iterator'
    × (l.caller ≡ l.fn.caller)
