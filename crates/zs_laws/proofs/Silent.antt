-- No event tells listeners anything but by what they make of it: nothing else that it brings about is a match line.
use Rattle.std.proofs.Common.{◌≡◌, ℕ, Bool, true, false, List, [], ◌∷◌, ◌++◌, Option, Some, None, refl, ap, ◌∙◌}
use Rattle.std.specs.Prelude.{◌==◌, filter, if◌then◌else◌}
use Rattle.zs_subscriptions.specs.declared.subscriber.SubRow.{SubRow}
use Rattle.zs_events.specs.declared.event.Event.{Event}
use Rattle.zs_events.specs.declared.turn.Effect.{Effect}
use Rattle.zs_events.specs.declared.turn.Effect.TheVariants.{Matching, Send, Hand, End}
use Rattle.zs_events.specs.declared.turn.HandOver.TheVariants.{Sample as sample_for}
use Rattle.zs_events.specs.declared.turn.Kind.TheVariants.{Subscriber}
use Rattle.zs_events.specs.Kinds.{Publishes, NoContent, OwnContent, ByPublisher, row_of}
use Rattle.zs_model.specs.Heard.{told_to}
use Rattle.zs_model.specs.Publications.{allows, sample_on}
use Rattle.zs_model.specs.Publishers.{resolved}
use Rattle.zs_model.specs.Effects.{Known, publication_on, hands_for, effects_on}
use Rattle.zs_laws.proofs.Brought.{HoldsOfEach, all_map, brought}

-- effects that tell no listener anything
abbrev pub IsSilent : List Effect → Type 0
IsSilent fx = (id : ℕ) → told_to id fx ≡ []

pub told_append : (id : ℕ) (xs ys : List Effect) → told_to id (xs ++ ys) ≡ told_to id xs ++ told_to id ys
told_append id [] ys = refl
told_append id (Matching number matching ∷ xs) ys = go (number == id) (told_append id xs ys)
  where
    go : (b : Bool) → told_to id (xs ++ ys) ≡ told_to id xs ++ told_to id ys
        → (if b then matching ∷ told_to id (xs ++ ys) else told_to id (xs ++ ys)) ≡ (if b then matching ∷ told_to id xs else told_to id xs) ++ told_to id ys
    go true ih = ap (λ (rest : List Bool). matching ∷ rest) ih
    go false ih = ih
told_append id (Send message ∷ xs) ys = told_append id xs ys
told_append id (Hand over ∷ xs) ys = told_append id xs ys
told_append id (End kind number ∷ xs) ys = told_append id xs ys

silent_none : IsSilent []
silent_none id = refl

silent_append : (xs ys : List Effect) → IsSilent xs → IsSilent ys → IsSilent (xs ++ ys)
silent_append xs ys a b id = told_append id xs ys ∙ (λ i. a id i ++ b id i)

-- so it is with each effect that is none of those
pub silent : HoldsOfEach IsSilent
silent = record {
  ends = record { none = silent_none; both = silent_append; one = λ kind id other. refl };
  sent = λ m id. refl;
  token = λ id sample other. refl;
  reply = λ kind number reply id. refl;
  query = λ v id. refl;
}

-- with what is handed out of a publication
silent_hands : (rows : List SubRow) (text : Option (List ℕ)) (p : Publishes) → IsSilent (hands_for rows (publication_on text p))
silent_hands rows text NoContent = silent_none
silent_hands rows None (ByPublisher id c) = silent_none
silent_hands rows (Some text) (ByPublisher id c) = silent_none
silent_hands rows None (OwnContent c) = silent_none
silent_hands rows (Some text) (OwnContent c) = all_map IsSilent silent (λ (row : SubRow). Hand (sample_for Subscriber row.id (sample_on text c))) (λ row id. refl)
    (filter (allows (record { local = c.local; destination = c.destination; sample = sample_on text c })) rows)

-- and so with all that an event brings about but for listeners
pub silent_effects : (known : Known) (number : Option ℕ) (text : Option (List ℕ)) (e : Event) → IsSilent (effects_on known number text e)
silent_effects known number text e = brought IsSilent silent known number text e (silent_hands known.subs text (resolved known.pubs (row_of e).publishes))
