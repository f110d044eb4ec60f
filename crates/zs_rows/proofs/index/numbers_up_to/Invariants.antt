use Rattle.std.proofs.Common.{◌≡◌, ℕ}
use Rattle.std.specs.Prelude.{◌||◌}
use Rattle.std.specs.List.Sorted.{IsStrictlySortedBy}
use Rattle.zs_rows.specs.Index.{is_marked_up_to}
use Rattle.zs_rows.specs.Numbers.{is_in}
use Rattle.zs_rows.proofs.Marking.{by_parts}
use Rattle.zs_rows.proofs.index.numbers_up_to.Given as goal

abbrev pub invariant-loop-mark : goal.invariant-loop-mark
invariant-loop-mark l =
    (goal.iterator-loop-mark).can_next l.mark-iterator ×
    (goal.iterator-loop-mark).is_finite l.mark-iterator ×
    ((n : ℕ) → (is_in n l.numbers || is_marked_up_to l.end n l.mark-iterator) ≡ is_marked_up_to l.end n l.marks.keys) ×
    IsStrictlySortedBy by_parts l.mark-iterator
