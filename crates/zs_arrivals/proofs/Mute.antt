-- No event hands a subscriber anything but samples of what it publishes: nothing else that it brings about is one.
use Rattle.std.proofs.Common.{◌≡◌, ℕ, Bool, List, [], ◌∷◌, ◌++◌, Option, refl, sym, ap, ◌∙◌}
use Rattle.std.specs.Prelude.{◌&&◌, not, filter}
use Rattle.std.proofs.lemmas.List.{append_assoc}
use Rattle.zs_sample.specs.declared.sample_fields.SampleFields.{SampleFields}
use Rattle.zs_tables.specs.MatchingLaws.{differ}
use Rattle.zs_tables.specs.declared.listener.ListenerRow.{ListenerRow}
use Rattle.zs_events.specs.declared.event.Event.{Event}
use Rattle.zs_events.specs.declared.turn.Effect.{Effect}
use Rattle.zs_events.specs.declared.turn.Effect.TheVariants.{Matching, End}
use Rattle.zs_events.specs.declared.turn.Kind.TheVariants.{Listener}
use Rattle.zs_events.specs.Kinds.{NamedKey, Publishes}
use Rattle.zs_model.specs.Entry.{Entry}
use Rattle.zs_model.specs.Listeners.{is_listener, listener_ends}
use Rattle.zs_model.specs.Live.{live_listeners}
use Rattle.zs_model.specs.Matching.{is_matched, turned, listener_effects}
use Rattle.zs_model.specs.Sends.{OwnKeys, publication_sends}
use Rattle.zs_model.specs.Effects.{Known, hands_of, effects_on}
use Rattle.zs_arrivals.specs.Samples.{sample_in, samples_to}
use Rattle.zs_laws.proofs.Brought.{HoldsOfEach, all_map, brought}
use Rattle.zs_laws.proofs.Sends.{publication_cases}

-- effects that hand no subscriber a sample
abbrev pub IsMute : List Effect → Type 0
IsMute fx = (id : ℕ) → samples_to id fx ≡ []

pub samples_append : (id : ℕ) (xs ys : List Effect) → samples_to id (xs ++ ys) ≡ samples_to id xs ++ samples_to id ys
samples_append id [] ys = refl
samples_append id (x ∷ xs) ys =
    ap (λ (rest : List SampleFields). sample_in id x ++ rest) (samples_append id xs ys) ∙ sym (append_assoc (sample_in id x) (samples_to id xs) (samples_to id ys))

mute_none : IsMute []
mute_none id = refl

mute_append : (xs ys : List Effect) → IsMute xs → IsMute ys → IsMute (xs ++ ys)
mute_append xs ys a b id = samples_append id xs ys ∙ (λ i. a id i ++ b id i)

-- so it is with each effect but a sample for a subscriber
mute : HoldsOfEach IsMute
mute = record {
  ends = record { none = mute_none; both = mute_append; one = λ kind id other. refl };
  sent = λ m id. refl;
  token = λ id sample other. refl;
  reply = λ kind number reply id. refl;
  query = λ v id. refl;
}

-- what an event brings about beside what it hands out of a publication
pub mute_others : (known : Known) (number : Option ℕ) (text : Option (List ℕ)) (e : Event) → IsMute (hands_of known.subs known.pubs text e) → IsMute (effects_on known number text e)
mute_others known number text e nothing = brought IsMute mute known number text e nothing

-- what a publication sends hands nothing over
pub mute_publication : (k : OwnKeys) (key : NamedKey) (text : Option (List ℕ)) (p : Publishes) → IsMute (publication_sends k key text p)
mute_publication k key text p = publication_cases IsMute mute_none k key text p (λ t c named is sent id. refl)

-- nor does what listeners hear
mute_turned : (before after : ListenerRow → Bool) (rows : List ListenerRow) → IsMute (turned before after rows)
mute_turned before after rows = all_map IsMute mute (λ (row : ListenerRow). Matching row.id (after row)) (λ row id. refl) (filter (λ row. differ (before row) (after row)) rows)

pub mute_listeners : (past : List Entry) (x : Entry) → IsMute (listener_effects past x)
mute_listeners past x =
    let ended = filter (λ (row : ListenerRow). not (is_listener row.id (live_listeners (x ∷ past)))) (live_listeners past) in
    let before : ListenerRow → Bool = λ row. is_listener row.id (live_listeners past) && is_matched past row in
    mute_append (listener_ends ended) (turned before (is_matched (x ∷ past)) (live_listeners (x ∷ past)))
    (all_map IsMute mute (λ (row : ListenerRow). End Listener row.id) (λ row id. refl) ended)
    (mute_turned before (is_matched (x ∷ past)) (live_listeners (x ∷ past)))
