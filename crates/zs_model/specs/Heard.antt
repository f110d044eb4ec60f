-- What a listener was told over a history.
use Rattle.std.specs.Prelude.{ℕ, Bool, false, ◌==◌, List, [], ◌∷◌, if◌then◌else◌}
use Rattle.zs_events.specs.declared.event.Event.{Event}
use Rattle.zs_events.specs.declared.turn.Effect.{Effect}
use Rattle.zs_events.specs.declared.turn.Effect.TheVariants.{Matching}
use Rattle.zs_model.specs.declared.settings.Settings.{Settings}
use Rattle.zs_model.specs.Effects.{effects}

-- all that effects tell the listener of a number, the first first
abbrev pub told_to : ℕ → List Effect → List Bool
told_to id [] = []
told_to id (Matching number matching ∷ fx) = if number == id then matching ∷ told_to id fx else told_to id fx
told_to id (f ∷ fx) = told_to id fx

-- the last of several answers, or the one before them
abbrev pub last_of : List Bool → Bool → Bool
last_of [] before = before
last_of (b ∷ bs) before = last_of bs b

-- what it was told last; before all, that nobody matches
abbrev pub last_told : Settings → ℕ → List Event → Bool
last_told s id [] = false
last_told s id (e ∷ h) = last_of (told_to id (effects s h e).effects) (last_told s id h)
