use Rattle.std.specs.Prelude.{ℕ, Bool, ◌==◌, List, [], ◌∷◌, Option, Some, map}
use Rattle.std.specs.List.{find, list_any}
use Rattle.zs_keys.specs.Key.{undeclared}
use Rattle.zs_events.specs.declared.event.Event.{Event}
use Rattle.zs_events.specs.declared.event.Event.TheVariants.{Sub}
use Rattle.zs_events.specs.declared.turn.Effect.{Effect}
use Rattle.zs_events.specs.declared.turn.Effect.TheVariants.{End}
use Rattle.zs_events.specs.declared.turn.Kind.TheVariants.{Subscriber}
use Rattle.zs_subscriptions.specs.declared.subscriber.SubRow.{SubRow}

-- the subscriber that an event declares, given the number that it drew and the text of its key
abbrev pub sub_row : Event → Option ℕ → Option (List ℕ) → List SubRow
sub_row (Sub origin key to) (Some number) (Some text) = record { id = number; origin = origin; key = undeclared text } ∷ []
sub_row e number text = []

-- the subscriber of a number
abbrev pub sub_at : ℕ → List SubRow → Option SubRow
sub_at id rows = find (λ row. row.id == id) rows

-- whether there is a subscriber of that number
abbrev pub is_sub : ℕ → List SubRow → Bool
is_sub id rows = list_any (λ row. row.id == id) rows

-- what tells that these subscribers are called no more
abbrev pub sub_ends : List SubRow → List Effect
sub_ends rows = map (λ row. End Subscriber row.id) rows
