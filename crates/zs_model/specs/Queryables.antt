-- Queryables as they are declared.
use Rattle.std.specs.Prelude.{ℕ, ◌==◌, List, [], ◌∷◌, Option, Some, map}
use Rattle.std.specs.List.{find}
use Rattle.zs_keys.specs.Key.{undeclared}
use Rattle.zs_events.specs.declared.event.Event.{Event}
use Rattle.zs_events.specs.declared.event.Event.TheVariants.{Queryable}
use Rattle.zs_events.specs.declared.turn.Effect.{Effect}
use Rattle.zs_events.specs.declared.turn.Effect.TheVariants.{End}
use Rattle.zs_events.specs.declared.turn.Kind.TheVariants.{Queryable as queryable_kind}
use Rattle.zs_tables.specs.declared.queryable.QueryableRow.{QueryableRow}

-- the queryable that an event declares, given the number that it drew and the text of its key
abbrev pub queryable_row : Event → Option ℕ → Option (List ℕ) → List QueryableRow
queryable_row (Queryable origin complete key) (Some number) (Some text) =
    record { id = number; origin = origin; complete = complete; key = undeclared text } ∷ []
queryable_row e number text = []

-- the queryable of a number
abbrev pub queryable_at : ℕ → List QueryableRow → Option QueryableRow
queryable_at id rows = find (λ row. row.id == id) rows

-- what tells that these queryables are asked no more
abbrev pub queryable_ends : List QueryableRow → List Effect
queryable_ends rows = map (λ row. End queryable_kind row.id) rows
