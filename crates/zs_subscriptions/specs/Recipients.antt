-- Who receives a publication.
use Rattle.std.specs.Prelude.{◌≡◌, ℕ, nat_lt, Bool, true, false, ◌&&◌, List, [], ◌∷◌, Option, Some, None, map, filter, if◌then◌else◌}
use Rattle.zs_keys.specs.Matching.{intersects}
use Rattle.zs_sample.specs.declared.locality.Locality.{Locality}
use Rattle.zs_sample.specs.declared.locality.Locality.TheVariants.{SessionLocal, Remote, Any}
use Rattle.zs_subscriptions.specs.declared.subscriber.SubRow.{SubRow}

-- the ids of the subscribers whose key has a key in common with the text
abbrev pub matches : List ℕ → List SubRow → List ℕ
matches text rows = map (λ row. row.id) (filter (λ row. intersects text row.key.text) rows)

-- an origin that has this session in it
abbrev pub has_session : Locality → Bool
has_session SessionLocal = true
has_session Remote = false
has_session Any = true

-- an origin that has the network in it
abbrev pub has_network : Locality → Bool
has_network SessionLocal = false
has_network Remote = true
has_network Any = true

-- a local publication is for origins that have this session in them, an incoming one for those that have the network
abbrev pub takes : Bool → Locality → Bool
takes local origin = if local then has_session origin else has_network origin

-- whether a subscriber receives a publication on this text: by its origin, and by its key
abbrev pub receives : Bool → List ℕ → SubRow → Bool
receives local text row = takes local row.origin && intersects text row.key.text

-- the ids of the subscribers that receive it
abbrev pub recipients : Bool → List ℕ → List SubRow → List ℕ
recipients local text rows = map (λ row. row.id) (filter (receives local text) rows)

-- whether an id is above the last one, if there was one
abbrev pub is_behind : Option ℕ → ℕ → Bool
is_behind None id = true
is_behind (Some after) id = nat_lt after id

-- the first of the ids that are above the last one
abbrev pub first_behind : Option ℕ → List ℕ → Option ℕ
first_behind after [] = None
first_behind after (id ∷ ids) = if is_behind after id then Some id else first_behind after ids

-- the next subscriber that receives a publication on this text, behind the last one
abbrev pub next_recipient : Bool → List ℕ → Option ℕ → List SubRow → Option ℕ
next_recipient local text after rows = first_behind after (recipients local text rows)

-- the ids that are above the last one, if there was one
abbrev pub ids_behind : Option ℕ → List ℕ → List ℕ
ids_behind None ids = ids
ids_behind (Some after) ids = filter (nat_lt after) ids

-- the next id, if there is one, and what follows it
abbrev pub onward : (ℕ → List ℕ) → Option ℕ → List ℕ
onward rest None = []
onward rest (Some id) = id ∷ rest id

-- what a walk over the recipients has left behind the last one
abbrev pub left_behind : Bool → List ℕ → Option ℕ → List SubRow → List ℕ
left_behind local text after rows = ids_behind after (recipients local text rows)

-- it is the next one, and what the walk has left behind that one
abbrev pub GoesOn : Bool → List ℕ → Option ℕ → List SubRow → Option ℕ → Type 0
GoesOn local text after rows next =
    left_behind local text after rows ≡ onward (λ id. left_behind local text (Some id) rows) next
