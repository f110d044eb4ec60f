use Rattle.std.proofs.Common.{◌≡◌, ◌++◌}
use Rattle.std.specs.Prelude.{map}
use Rattle.zs_tables.specs.declared.listener.Listener.{Listener}
use Rattle.zs_model.specs.Listeners.{listener_ends}
use Rattle.zs_hearing.proofs.listeners.push_ends.Given as goal

abbrev pub invariant-loop-id : goal.invariant-loop-id
invariant-loop-id l =
    (goal.iterator-loop-id).can_next l._id-iterator ×
    (goal.iterator-loop-id).is_finite l._id-iterator ×
    (l.effects ++ listener_ends (map (λ (x : Listener). x.row) (map (λ e. e.1) l._id-iterator)) ≡ l.fn.effects ++ listener_ends (map (λ (x : Listener). x.row) l.listeners))
