-- Lists of effects that wait.
use Rattle.std.proofs.Common.{◌≡◌, List, [], ◌∷◌, slice_get, refl}
use Rattle.std.proofs.lemmas.Option.{none-some}
use Rattle.std.specs.declared.option.Option.TheVariants.{None, Some}
use Rattle.zs_events.specs.declared.turn.Effect.{Effect}

-- a list that has no first effect has none
pub none_first : (effects : List Effect) → None ≡ slice_get effects 0 → effects ≡ []
none_first [] none = refl
none_first (effect ∷ more) none = absurd (none-some effect none)
