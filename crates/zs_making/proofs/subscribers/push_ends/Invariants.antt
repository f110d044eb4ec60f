use Rattle.std.proofs.Common.{◌≡◌, ◌++◌}
use Rattle.std.specs.Prelude.{map}
use Rattle.zs_model.specs.Subscribers.{sub_ends}
use Rattle.zs_making.proofs.subscribers.push_ends.Given as goal

abbrev pub invariant-loop-id : goal.invariant-loop-id
invariant-loop-id l =
    (goal.iterator-loop-id).can_next l._id-iterator ×
    (goal.iterator-loop-id).is_finite l._id-iterator ×
    (l.effects ++ sub_ends (map (λ e. e.1) l._id-iterator) ≡ l.fn.effects ++ sub_ends l.tables.rows)
