-- A form is read as the values that were printed.
use Rattle.std.proofs.Common.{ℕ, ◌≡◌, Bool, true, ◌&&◌, List, [], ◌∷◌, Some, None, refl}
use Rattle.std.specs.List.{list_all}
use Rattle.std.proofs.lemmas.Bool.{and_parts}
use Rattle.zs_parts.specs.Parts.{Part, Maker, named_in, form}
use Rattle.zs_event_lines.specs.Sayable.{says, is_typed, kept}
use Rattle.zs_event_lines.specs.Slots.{slots_fields, slots_say, slots_are_typed, Values, slots_of, remade}
use Rattle.zs_event_lines.proofs.Options.{is_apart_from, AllDeclined}
use Rattle.zs_event_lines.proofs.PartsBack.{asks, heads, is_sound, back, over}

-- whether no name of a part begins one of the later ones
abbrev are_apart : List (List ℕ) → List Part → Bool
are_apart names parts = list_all (λ name. list_all (λ part. is_apart_from name (heads part)) parts) names

abbrev pub is_orderly : List Part → Bool
is_orderly [] = true
is_orderly (part ∷ parts) = is_sound part && (are_apart (asks part) parts && is_orderly parts)

declined : (name : List ℕ) (parts : List Part) (values : Values parts)
    → list_all (λ part. is_apart_from name (heads part)) parts ≡ true → named_in name (slots_fields (slots_of parts values)) ≡ None
declined name [] values h = refl
declined name (part ∷ parts) values h =
    let both = and_parts (is_apart_from name (heads part)) _ h in
    over part values.0 name (slots_fields (slots_of parts values.1)) both.0 (declined name parts values.1 both.1)

all-declined : (names : List (List ℕ)) (parts : List Part) (values : Values parts) → are_apart names parts ≡ true
    → AllDeclined names (slots_fields (slots_of parts values))
all-declined [] parts values h = tt
all-declined (name ∷ names) parts values h =
    let both = and_parts (list_all (λ part. is_apart_from name (heads part)) parts) _ h in
    (declined name parts values both.0, all-declined names parts values both.1)

pub form-back : {A : Type 0} (parts : List Part) (make : Maker parts A) (values : Values parts) → is_orderly parts ≡ true
    → slots_say (slots_of parts values) ≡ true → slots_are_typed (slots_of parts values) ≡ true
    → form parts make (slots_fields (slots_of parts values)) ≡ Some (remade parts make values)
unfolding form
form-back [] make values orderly s t = refl
form-back (part ∷ parts) make values orderly s t =
    let sound = and_parts (is_sound part) _ orderly in
    let apart = and_parts (are_apart (asks part) parts) _ sound.1 in
    let said = and_parts (says part values.0) _ s in
    let typed = and_parts (is_typed part values.0) _ t in
    rw (back part values.0 sound.0 said.0 typed.0 (slots_fields (slots_of parts values.1)) (all-declined (asks part) parts values.1 apart.0))
    (form-back parts (make (kept part values.0)) values.1 apart.1 said.1 typed.1)
