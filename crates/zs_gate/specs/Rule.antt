-- The rule of a gate: what its one word and the views of all its seats are to each other, between any two steps.
use Rattle.std.specs.Prelude.{◌≡◌, ℕ, ◌+◌, ◌*◌, ◌^◌, ◌<◌, ◌≤◌, List, length, slice_index}
use Rattle.atomic_table.specs.Table.{State}
use Rattle.zs_gate.specs.declared.view.View.{View}
use Rattle.zs_gate.specs.Views.{total, keeper, door_keeper, marked_keeper, drained_keeper, door, number, pass, counted_pass, inside_pass, late_pass}

pub record IsKept (word : ℕ) (views : List View) : Type 0 where
  pub one_keeper : total keeper views ≡ 1
  pub one_door : total door views ≤ 1
  -- the door's number is that of all passes, and fits 32 bits
  pub passes : total number views ≡ total pass views
  pub most : total number views < 2 ^ 32
  -- without a door there is no pass, and a keeper that has the door stands beside none
  pub no_door : total door views ≡ 0 → total pass views ≡ 0
  pub door_apart : 0 < total door_keeper views → total door views ≡ 0
  -- the word is twice the count of the passes that are inside or knock, plus the mark, which is set exactly where the keeper isn't `Open`
  pub word_is : word ≡ 2 * total counted_pass views + total marked_keeper views
  -- a `Drained` keeper stands beside no one inside
  pub apart : 0 < total drained_keeper views → total inside_pass views ≡ 0
  -- who found the mark stands beside it: it is never taken away
  pub late_marked : 0 < total late_pass views → total marked_keeper views ≡ 1

-- the rule of the table: it has one word
abbrev pub Kept : State (Unit {0}) View → Type 0
Kept s = (length s.words ≡ 1) × IsKept (slice_index s.words 0) s.views
