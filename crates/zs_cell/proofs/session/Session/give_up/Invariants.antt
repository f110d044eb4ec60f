use Rattle.std.proofs.Common.{◌≡◌, []}
use Rattle.zs_cell.specs.Further.{AddsSome}
use Rattle.zs_cell.specs.Works.{returned}
use Rattle.zs_cell.proofs.session.Session.give_up.Given as goal

abbrev pub invariant-loop : goal.invariant-loop
invariant-loop g l =
    (goal.iterator-loop g).can_next l.iterator' × (goal.iterator-loop g).is_finite l.iterator'
    × AddsSome g.B.Entries.EntryLedger.settings l.fn.caller l.caller
    × (returned l.fn.self.tag l.fn.asks l.fn.reports ≡ [] → (returned l.fn.self.tag l.fn.asks l.left ≡ []) × (l.caller ≡ l.fn.caller))
