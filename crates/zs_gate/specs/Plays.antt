-- How each kind of step changes the view of the seat that steps, and what it tells: of the step, the seat before, the word found and the seat after.
use Rattle.std.specs.Prelude.{◌≡◌, ◌≢◌, ℕ, zero, suc, ◌+◌, ◌/◌, ◌%◌, ◌^◌, ◌<◌, true, false}
use Rattle.atomic_table.specs.Table.{Me, Step}
use Rattle.zs_gate.specs.declared.view.View.{View}
use Rattle.zs_gate.specs.declared.view.View.TheVariants.{Keeper, Door, Out, Inside, Knock, Spent}
use Rattle.zs_gate.specs.declared.view.Phase.TheVariants.{Draining, Drained}
use Rattle.zs_gate.specs.Views.{number}

abbrev pub Mine : Type 0
Mine = Me (Unit {0}) View

-- no step of a gate takes a slot
abbrev pub Becomes : Mine → Mine → View → Type 0
Becomes me after view = (after.0 ≡ view) × (after.1 ≡ me.1)

abbrev pub Told : Type 1
Told = Step (Unit {0}) → Mine → ℕ → Mine → Type 0

-- enter: inside where the word was even, else a knock
abbrev pub Enters : Told
Enters step me found after = (found % 2 ≡ 0 → after.0 ≡ Inside) × (found % 2 ≢ 0 → after.0 ≡ Knock) × (after.1 ≡ me.1)

-- retreat: out, with the note that the mark was seen
abbrev pub Retreats : Told
Retreats step me found after = Becomes me after (Out true)

-- leave: out
abbrev pub Leaves : Told
Leaves step me found after = Becomes me after (Out false)

-- the keeper's view once it has set the mark
abbrev pub keeper_after_mark : View → View
keeper_after_mark (Keeper has_door phase) = Keeper has_door (Draining 0 0)
keeper_after_mark _ = Spent

-- drain: the keeper has set the mark
abbrev pub Drains : Told
Drains step me found after = Becomes me after (keeper_after_mark me.0)

-- the keeper's view after a look that counted passes
abbrev pub keeper_after_look : View → ℕ → View
keeper_after_look (Keeper has_door (Draining looks count)) more = Keeper has_door (Draining (looks + 1) more)
keeper_after_look _ more = Spent

-- look: drained where the word is 1, so that it counts no one; else one look more, with the count
abbrev pub Looks : Told
Looks step me found after =
    (found < 2 ^ 34)
    × (found / 2 ≡ 0 → after.0 ≡ Keeper false Drained)
    × (found / 2 ≢ 0 → after.0 ≡ keeper_after_look me.0 (found / 2))
    × (after.1 ≡ me.1)

-- the look of a keeper that has the door finds no one
abbrev pub LooksAlone : Told
LooksAlone step me found after = Becomes me after (Keeper true Drained)

-- a look at the word that changes nothing: no door has a larger number
abbrev pub Checks : Told
Checks step me found after = (number me.0 < 2 ^ 32) × Becomes me after me.0

-- the door with one pass more
abbrev pub one_more : View → View
one_more (Door out) = Door (out + 1)
one_more _ = Spent

-- the door with one pass less. A door of number 0 has no pass to take back: it would have a number that the rule refuses
abbrev pub one_less : View → View → View
one_less (Door zero) other = Door (2 ^ 32)
one_less (Door (suc out)) other = Door out
one_less _ other = Spent
