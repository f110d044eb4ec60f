-- What is sent beside what gets and query values bring about.
use Rattle.std.proofs.Common.{ℕ, List, ◌++◌, Option, refl}
use Rattle.std.specs.List.{AllByRecursion}
use Rattle.zs_query.proofs.Ascending.{all_append}
use Rattle.zs_events.specs.declared.event.Event.{Event}
use Rattle.zs_model.specs.Sends.{sends_of}
use Rattle.zs_model.specs.Effects.{Known, entity_sends}
use Rattle.zs_effects.proofs.Rising.{IsSending}
use Rattle.zs_laws.proofs.Sends.{entity_cases, sends_cases}

-- what is sent
sends_sent : (known : Known) (number : Option ℕ) (text : Option (List ℕ)) (e : Event)
    → AllByRecursion IsSending (sends_of known.keys known.pubs number text e)
sends_sent known number text e =
    sends_cases (AllByRecursion IsSending) tt known.keys known.pubs number text e
    (λ n t drew named. ((refl, refl), tt)) (λ n. ((refl, refl), tt)) ((refl, refl), tt) (λ t c named is sent. ((refl, refl), tt))

entity_sent : (known : Known) (number : Option ℕ) (text : Option (List ℕ)) (e : Event) → AllByRecursion IsSending (entity_sends known e number text)
entity_sent known number text e = entity_cases (AllByRecursion IsSending) tt known e number text (λ what id t key is named. ((refl, refl), tt)) (λ what id is. ((refl, refl), tt))

pub front_sent : (known : Known) (number : Option ℕ) (text : Option (List ℕ)) (e : Event) → AllByRecursion IsSending (sends_of known.keys known.pubs number text e ++ entity_sends known e number text)
front_sent known number text e = all_append IsSending (sends_of known.keys known.pubs number text e) (entity_sends known e number text) (sends_sent known number text e) (entity_sent known number text e)
