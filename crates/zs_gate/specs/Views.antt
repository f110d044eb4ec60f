-- What a gate's rule counts: a weight gives each view 0, 1 or a number, and `total` adds it up over all views.
use Rattle.std.specs.Prelude.{ℕ, ◌+◌, Bool, true, false, List, [], ◌∷◌}
use Rattle.zs_gate.specs.declared.view.View.{View}
use Rattle.zs_gate.specs.declared.view.View.TheVariants.{Keeper, Door, Out, Inside, Knock}
use Rattle.zs_gate.specs.declared.view.Phase.TheVariants.{Open, Draining, Drained}

abbrev pub total : (View → ℕ) → List View → ℕ
total weight [] = 0
total weight (v ∷ views) = weight v + total weight views

abbrev pub one_if : Bool → ℕ
one_if true = 1
one_if false = 0

-- the keeper
abbrev pub keeper : View → ℕ
keeper (Keeper has_door phase) = 1
keeper _ = 0

-- a keeper that has the door
abbrev pub door_keeper : View → ℕ
door_keeper (Keeper has_door phase) = one_if has_door
door_keeper _ = 0

-- a keeper that has set the mark
abbrev pub marked_keeper : View → ℕ
marked_keeper (Keeper has_door Open) = 0
marked_keeper (Keeper has_door _) = 1
marked_keeper _ = 0

-- a keeper that has found no one inside
abbrev pub drained_keeper : View → ℕ
drained_keeper (Keeper has_door Drained) = 1
drained_keeper _ = 0

-- the door
abbrev pub door : View → ℕ
door (Door out) = 1
door _ = 0

-- the door's number
abbrev pub number : View → ℕ
number (Door out) = out
number _ = 0

-- a pass, wherever it is
abbrev pub pass : View → ℕ
pass (Out noted) = 1
pass Inside = 1
pass Knock = 1
pass _ = 0

-- a pass that the word counts
abbrev pub counted_pass : View → ℕ
counted_pass Inside = 1
counted_pass Knock = 1
counted_pass _ = 0

-- a pass that is inside
abbrev pub inside_pass : View → ℕ
inside_pass Inside = 1
inside_pass _ = 0

-- a pass that has found the mark
abbrev pub late_pass : View → ℕ
late_pass (Out noted) = one_if noted
late_pass Knock = 1
late_pass _ = 0

-- what a view says, of those that say it
abbrev pub noted_of : View → Bool
noted_of (Out noted) = noted
noted_of _ = false

abbrev pub has_door_of : View → Bool
has_door_of (Keeper has_door phase) = has_door
has_door_of _ = false

abbrev pub looks_of : View → ℕ
looks_of (Keeper has_door (Draining looks count)) = looks
looks_of _ = 0

abbrev pub count_of : View → ℕ
count_of (Keeper has_door (Draining looks count)) = count
count_of _ = 0
