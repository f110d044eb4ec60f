-- What an event hands a subscriber is the sample of what it publishes.
use Rattle.std.proofs.Common.{◌≡◌, ℕ, List, [], ◌∷◌, ◌++◌, Bool, true, false, Option, Some, None, refl, sym, ◌∙◌, ap, map, cond}
use Rattle.std.specs.Prelude.{◌==◌, ◌&&◌, filter, if◌then◌else◌}
use Rattle.std.specs.List.{flat_map}
use mathlib.Core.List.{append-nil}
use Rattle.zs_sample.specs.declared.sample_fields.SampleFields.{SampleFields}
use Rattle.zs_wire.specs.declared.message.Message.{Message}
use Rattle.zs_wire.specs.declared.message.Message.TheVariants.{Push as push_message}
use Rattle.zs_subscriptions.specs.declared.subscriber.SubRow.{SubRow}
use Rattle.zs_events.specs.declared.event.Event.{Event}
use Rattle.zs_events.specs.declared.event.Event.TheVariants.{Publish, PublishBy, Net}
use Rattle.zs_events.specs.declared.turn.Effect.{Effect}
use Rattle.zs_events.specs.declared.turn.Effect.TheVariants.{Hand}
use Rattle.zs_events.specs.declared.turn.HandOver.TheVariants.{Sample as sample_for}
use Rattle.zs_events.specs.declared.turn.Kind.TheVariants.{Subscriber}
use Rattle.zs_events.specs.declared.turn.Refusal.{Refusal}
use Rattle.zs_events.specs.Turn.{answered}
use Rattle.zs_events.specs.Kinds.{NamedKey, Publishes, NoContent, row_of}
use Rattle.zs_model.specs.Entry.{Entry, is_closed}
use Rattle.zs_model.specs.HeldKeys.{named_text}
use Rattle.zs_model.specs.Live.{live_subs, live_pubs}
use Rattle.zs_model.specs.Causes.{refusal_of}
use Rattle.zs_model.specs.Past.{entry_of, past_of}
use Rattle.zs_model.specs.Publications.{Publication, allows, hands}
use Rattle.zs_model.specs.Publishers.{resolved}
use Rattle.zs_model.specs.Matching.{listener_effects}
use Rattle.zs_model.specs.Sends.{publication_sends}
use Rattle.zs_model.specs.Effects.{Known, publication_on, publication_of, hands_for, known_of, effects_on, effects_behind}
use Rattle.zs_arrivals.specs.Publications.{unless_refused}
use Rattle.zs_arrivals.specs.Samples.{samples_to, handed_by, SamplesFollowPublications}
use Rattle.zs_arrivals.proofs.Mute.{IsMute, samples_append, mute_others, mute_publication, mute_listeners}

hands_samples : (id : ℕ) (p : Publication) (rows : List SubRow) → samples_to id (hands p rows) ≡ handed_by id rows p
hands_samples id p [] = refl
hands_samples id p (row ∷ rows) = go (allows p row) (hands_samples id p rows)
  where
    others : List SubRow
    others = filter (λ r. r.id == id && allows p r) rows

    taken : (b : Bool) → samples_to id (hands p rows) ≡ handed_by id rows p
        → (if b then p.sample ∷ [] else []) ++ samples_to id (hands p rows) ≡ map (λ (r : SubRow). p.sample) (cond (b && true) (row ∷ others) others)
    taken true rest = ap (λ (samples : List SampleFields). p.sample ∷ samples) rest
    taken false rest = rest

    left : (b : Bool) → samples_to id (hands p rows) ≡ handed_by id rows p → samples_to id (hands p rows) ≡ map (λ (r : SubRow). p.sample) (cond (b && false) (row ∷ others) others)
    left true rest = rest
    left false rest = rest

    go : (a : Bool) → samples_to id (hands p rows) ≡ handed_by id rows p
        → samples_to id (map (λ (r : SubRow). Hand (sample_for Subscriber r.id p.sample)) (cond a (row ∷ filter (allows p) rows) (filter (allows p) rows)))
        ≡ map (λ (r : SubRow). p.sample) (cond (row.id == id && a) (row ∷ others) others)
    go true rest = taken (row.id == id) rest
    go false rest = left (row.id == id) rest

-- what stands between what hands nothing over
between : (id : ℕ) (sends entities handed watched : List Effect) → IsMute sends → IsMute entities → IsMute watched
    → samples_to id (sends ++ entities ++ handed ++ watched) ≡ samples_to id handed
between id sends entities handed watched first second last =
    samples_append id (sends ++ entities ++ handed) watched
    ∙ ap (λ (rest : List SampleFields). samples_to id (sends ++ entities ++ handed) ++ rest) (last id)
    ∙ append-nil (samples_to id (sends ++ entities ++ handed))
    ∙ samples_append id (sends ++ entities) handed
    ∙ ap (λ (front : List SampleFields). front ++ samples_to id handed)
    (samples_append id sends entities ∙ ap (λ (front : List SampleFields). front ++ samples_to id entities) (first id) ∙ second id)

-- the sample of what is published
one_published : (id : ℕ) (rows : List SubRow) (o : Option Publication)
    → samples_to id (hands_for rows o) ≡ flat_map (λ p. handed_by id rows p) (unless_refused false None o)
one_published id rows None = refl
one_published id rows (Some p) = hands_samples id p rows ∙ sym (append-nil (handed_by id rows p))

-- nothing is published on any text
nothing : (text : Option (List ℕ)) → publication_on text NoContent ≡ None
nothing None = refl
nothing (Some text) = refl

mute_nothing : (rows : List SubRow) (text : Option (List ℕ)) → IsMute (hands_for rows (publication_on text NoContent))
mute_nothing rows None = λ id. refl
mute_nothing rows (Some text) = λ id. refl

-- where an event publishes, and where it doesn't
publishes : (known : Known) (id : ℕ) (key : NamedKey) (text : Option (List ℕ)) (r : Publishes)
    → samples_to id (publication_sends known.keys key text r ++ [] ++ hands_for known.subs (publication_on text r) ++ [])
    ≡ flat_map (λ p. handed_by id known.subs p) (unless_refused false None (publication_on text r))
publishes known id key text r =
    between id (publication_sends known.keys key text r) [] (hands_for known.subs (publication_on text r)) [] (mute_publication known.keys key text r) (λ n. refl) (λ n. refl)
    ∙ one_published id known.subs (publication_on text r)

quiet : (known : Known) (number : Option ℕ) (text : Option (List ℕ)) (e : Event) (id : ℕ) → IsMute (effects_on known number text e)
    → samples_to id (effects_on known number text e) ≡ flat_map (λ p. handed_by id known.subs p) (unless_refused false None (publication_on text NoContent))
quiet known number text e id mute = mute id ∙ ap (λ (o : Option Publication). flat_map (λ p. handed_by id known.subs p) (unless_refused false None o)) (sym (nothing text))

accepted_samples : (known : Known) (number : Option ℕ) (text : Option (List ℕ)) (e : Event) (id : ℕ)
    → samples_to id (effects_on known number text e) ≡ flat_map (λ p. handed_by id known.subs p) (unless_refused false None (publication_of known.pubs text e))
accepted_samples known number text (Publish destination key update quality) id =
    publishes known id (row_of (Publish destination key update quality)).key text (row_of (Publish destination key update quality)).publishes
accepted_samples known number text (PublishBy publisher update) id =
    publishes known id (row_of (PublishBy publisher update)).key text (resolved known.pubs (row_of (PublishBy publisher update)).publishes)
accepted_samples known number text (Net m) id = by m
  where
    by : (m : Message) → samples_to id (effects_on known number text (Net m)) ≡ flat_map (λ p. handed_by id known.subs p) (unless_refused false None (publication_of known.pubs text (Net m)))
    by (push_message push) = publishes known id (row_of (Net (push_message push))).key text (row_of (Net (push_message push))).publishes
    by m = quiet known number text (Net m) id (mute_others known number text (Net m) (mute_nothing known.subs text))
accepted_samples known number text e id = quiet known number text e id (mute_others known number text e (mute_nothing known.subs text))

pub samples_follow : SamplesFollowPublications
samples_follow s h e id = go (is_closed (past_of s h)) (refusal_of s (past_of s h) e)
  where
    past : List Entry
    past = past_of s h

    own : List Effect
    own = effects_on (known_of s past) (entry_of s past e).number (named_text past e) e

    heard : List Effect
    heard = listener_effects past (entry_of s past e)

    go : (c : Bool) (o : Option Refusal)
        → samples_to id (if c then answered o None [] else answered o (entry_of s past e).number (effects_behind s past e)).effects
        ≡ flat_map (λ p. handed_by id (live_subs past) p) (unless_refused c o (publication_of (live_pubs past) (named_text past e) e))
    go true (Some refusal) = refl
    go true None = refl
    go false (Some refusal) = refl
    go false None =
        samples_append id own heard
        ∙ ap (λ (rest : List SampleFields). samples_to id own ++ rest) (mute_listeners past (entry_of s past e) id)
        ∙ append-nil (samples_to id own)
        ∙ accepted_samples (known_of s past) (entry_of s past e).number (named_text past e) e id
