-- What a store takes of an event: the write of its publication.
use Rattle.std.proofs.Common.{◌≡◌, ◌⊎◌, inl, inr, ℕ, List, [], ◌∷◌, ◌++◌, Bool, true, false, Option, Some, None, refl, sym, ◌∙◌, ap, subst, cond, map}
use Rattle.std.specs.Prelude.{◌==◌, ◌&&◌, encode_utf8_all, if◌then◌else◌}
use Rattle.zs_keys.specs.Matching.{intersects}
use Rattle.zs_keys.specs.Text.{is_canonical}
use Rattle.zs_wire.specs.declared.origin.Timestamp.{Timestamp}
use Rattle.zs_wire.specs.declared.message.Message.{Message}
use Rattle.zs_wire.specs.declared.message.Message.TheVariants.{Push as push_message}
use Rattle.zs_wire.specs.declared.push.Push.{Push}
use Rattle.zs_sample.specs.declared.locality.Locality.{Locality}
use Rattle.zs_sample.specs.declared.locality.Locality.TheVariants.{Any}
use Rattle.zs_sample.specs.declared.sample_fields.SampleFields.{SampleFields}
use Rattle.zs_subscriptions.specs.declared.subscriber.SubRow.{SubRow}
use Rattle.zs_subscriptions.specs.Recipients.{has_session}
use Rattle.zs_events.specs.declared.event.Event.{Event}
use Rattle.zs_events.specs.declared.event.Event.TheVariants.{Publish, Get, Reply, Finish, Net}
use Rattle.zs_events.specs.declared.key_arg.KeyArg.TheVariants.{Text, Number, Declared}
use Rattle.zs_events.specs.declared.publication.PublicationQuality.{PublicationQuality}
use Rattle.zs_events.specs.declared.turn.Effect.{Effect}
use Rattle.zs_events.specs.declared.turn.Effect.TheVariants.{Send, Hand, End, Matching}
use Rattle.zs_events.specs.declared.turn.HandOver.TheVariants.{Sample as sample_for, Reply as reply_for, Query as query_for}
use Rattle.zs_events.specs.declared.turn.Kind.TheVariants.{Subscriber}
use Rattle.zs_events.specs.declared.turn.Refusal.{Refusal}
use Rattle.zs_events.specs.declared.update.PushBody.{PushBody}
use Rattle.zs_events.specs.declared.update.PushBody.TheVariants.{Put, Delete}
use Rattle.zs_events.specs.declared.update.Update.{Update}
use Rattle.zs_events.specs.Updates.{body_by}
use Rattle.zs_events.specs.Kinds.{NoContent, OwnContent, incoming_content, local_content, row_of, ToEntities}
use Rattle.zs_model.specs.declared.settings.Settings.{Settings}
use Rattle.zs_model.specs.Entry.{Entry, is_closed}
use Rattle.zs_model.specs.HeldKeys.{named_text}
use Rattle.zs_model.specs.Causes.{refusal_of}
use Rattle.zs_model.specs.Publications.{Publication, reaches, sample_on}
use Rattle.zs_model.specs.Effects.{publication_on}
use Rattle.zs_delivery.proofs.Accepting.{first_cause}
use Rattle.zs_store.specs.Store.{Write, joined}
use Rattle.zs_keeping.specs.Keeping.{write_at, with_timed, with_sample, with_effects}
use Rattle.zs_arrivals.specs.Publications.{unless_refused, made_by}
use Rattle.zs_arrivals.specs.Samples.{samples_to, handed_by}
use Rattle.zs_replicas.specs.Written.{write_by, timed_write, written_by}
use Rattle.zs_replicas.specs.Replicas.{keeper, keeper_row, IsWrite, IsReplicaEvent}
use Rattle.zs_replicas.proofs.Staying.{Stays}
use Rattle.zs_model.specs.Live.{drew_as, ends_as}
use Rattle.zs_model.proofs.Entities.{message_none}

-- what a sample writes, if it tells its moment; where its key is a replicated one
abbrev pub timed_of : Option Timestamp → SampleFields → List Write
timed_of None sample = []
timed_of (Some time) sample = write_at time sample ∷ []

abbrev pub kept_of : List ℕ → SampleFields → List Write
kept_of keys sample = if intersects sample.key_expr.text keys then timed_of sample.timestamp sample else []

-- a store takes effects by their samples
abbrev pub with_samples : List SampleFields → List Write → List Write
with_samples [] store = store
with_samples (sample ∷ samples) store = with_samples samples (with_sample sample store)

numbered : (b : Bool) (sample : SampleFields) (samples : List SampleFields) (store : List Write)
    → with_samples samples (if b then with_sample sample store else store) ≡ with_samples ((if b then sample ∷ [] else []) ++ samples) store
numbered true sample samples store = refl
numbered false sample samples store = refl

pub by_samples : (id : ℕ) (fx : List Effect) (store : List Write) → with_effects id fx store ≡ with_samples (samples_to id fx) store
by_samples id [] store = refl
by_samples id (Send message ∷ fx) store = by_samples id fx store
by_samples id (End kind number ∷ fx) store = by_samples id fx store
by_samples id (Matching number matching ∷ fx) store = by_samples id fx store
by_samples id (Hand (reply_for kind number reply) ∷ fx) store = by_samples id fx store
by_samples id (Hand (query_for number value query) ∷ fx) store = by_samples id fx store
by_samples id (Hand (sample_for Subscriber number sample) ∷ fx) store =
    by_samples id fx (if number == id then with_sample sample store else store) ∙ numbered (number == id) sample (samples_to id fx) store
by_samples id (Hand (sample_for kind number sample) ∷ fx) store = by_samples id fx store

-- the sample of a publication that goes anywhere, or came in
one_timed : (time : Option Timestamp) (sample : SampleFields) (store : List Write) → with_timed time sample store ≡ joined (timed_of time sample) store
one_timed None sample store = refl
one_timed (Some time) sample store = refl

pub one_taken : (keys : List ℕ) (p : Publication) (store : List Write) → (p.local ≡ true → p.destination ≡ Any)
    → with_samples (handed_by keeper (keeper_row keys ∷ []) p ++ []) store ≡ joined (kept_of keys p.sample) store
one_taken keys p store anywhere =
    ap (λ (b : Bool). with_samples (map (λ (row : SubRow). p.sample) (cond (b && intersects p.sample.key_expr.text keys) (keeper_row keys ∷ []) []) ++ []) store) (reached p.local p.destination anywhere)
    ∙ go (intersects p.sample.key_expr.text keys)
  where
    reached : (local : Bool) (destination : Locality) → (local ≡ true → destination ≡ Any) → reaches local destination Any ≡ true
    reached false destination anywhere = refl
    reached true destination anywhere = ap (λ (l : Locality). has_session l && has_session Any) (anywhere refl)

    go : (b : Bool) → with_samples (map (λ (row : SubRow). p.sample) (cond (true && b) (keeper_row keys ∷ []) []) ++ []) store ≡ joined (if b then timed_of p.sample.timestamp p.sample else []) store
    go true = one_timed p.sample.timestamp p.sample store
    go false = refl

-- an event's own write
pub record IsOwnWrite (keys : List ℕ) (e : Event) (p : Publication) : Type 0 where
  pub write : Write
  pub local : p.local ≡ true
  pub anywhere : p.destination ≡ Any
  pub kept : kept_of keys p.sample ≡ write ∷ []
  pub is : written_by e ≡ write ∷ []

-- what an event publishes: nothing, what came in, or its own write
abbrev pub Makes : List ℕ → Event → List Publication → Type 0
Makes keys e [] = written_by e ≡ []
Makes keys e (p ∷ []) = ((p.local ≡ false) × (written_by e ≡ [])) ⊎ IsOwnWrite keys e p
Makes keys e (p ∷ q ∷ made) = ⊥

-- an event that publishes nothing
pub makes_nothing : (keys : List ℕ) (e : Event) (c : Bool) (o : Option Refusal) (text : Option (List ℕ)) → written_by e ≡ [] → Makes keys e (unless_refused c o (publication_on text NoContent))
makes_nothing keys e true o text none = none
makes_nothing keys e false (Some refusal) text none = none
makes_nothing keys e false None None none = none
makes_nothing keys e false None (Some text) none = none

-- a push
makes_incoming : (keys : List ℕ) (push : Push) (c : Bool) (o : Option Refusal) (text : Option (List ℕ))
    → Makes keys (Net (push_message push)) (unless_refused c o (publication_on text (OwnContent (incoming_content push))))
makes_incoming keys push true o text = refl
makes_incoming keys push false (Some refusal) text = refl
makes_incoming keys push false None None = refl
makes_incoming keys push false None (Some text) = inl (refl, refl)

-- an open session accepts a publication on a canonical key
publish_causes : (destination : Locality) (text : List ℕ) (update : Update) (quality : PublicationQuality) (c : Bool) (named : List ℕ) → c ≡ false → is_canonical named ≡ true
    → first_cause c (row_of (Publish destination (Text text) update quality)) (Some named) ≡ None
publish_causes destination text update quality c named unshut canonical =
    subst (λ (b : Bool). first_cause b (row_of (Publish destination (Text text) update quality)) (Some named) ≡ None) (sym unshut) (rw canonical refl)

pub publish_accepted : (s : Settings) (past : List Entry) (destination : Locality) (text : List ℕ) (update : Update) (quality : PublicationQuality) → is_closed past ≡ false
    → is_canonical (encode_utf8_all text) ≡ true → refusal_of s past (Publish destination (Text text) update quality) ≡ None
publish_accepted s past destination text update quality unshut canonical =
    publish_causes destination text update quality (is_closed past) (encode_utf8_all text) unshut canonical

-- what its sample writes
kept_write : (keys : List ℕ) (destination : Locality) (text : List ℕ) (update : Update) (quality : PublicationQuality) (time : Timestamp) (body : PushBody) → intersects text keys ≡ true
    → update.timestamp ≡ Some time
    → kept_of keys (sample_on text (local_content destination (body_by body [] update) quality)) ≡ write_by text body time ∷ []
kept_write keys destination text update quality time (Put payload encoding) replicated timed =
    let sample = sample_on text (local_content destination (body_by (Put payload encoding) [] update) quality) in
    ap (λ (b : Bool). if b then timed_of update.timestamp sample else []) replicated ∙ ap (λ (o : Option Timestamp). timed_of o sample) timed
kept_write keys destination text update quality time Delete replicated timed =
    let sample = sample_on text (local_content destination (body_by Delete [] update) quality) in
    ap (λ (b : Bool). if b then timed_of update.timestamp sample else []) replicated ∙ ap (λ (o : Option Timestamp). timed_of o sample) timed

makes_write : (keys : List ℕ) (destination : Locality) (text : List ℕ) (update : Update) (quality : PublicationQuality) → IsWrite keys destination text update → (c : Bool) (o : Option Refusal) → c ≡ false → o ≡ None
    → Makes keys (Publish destination (Text text) update quality)
    (unless_refused c o (publication_on (Some (encode_utf8_all text)) (OwnContent (local_content destination (body_by update.body [] update) quality))))
makes_write keys destination text update quality write true o unshut accepted = cc
makes_write keys destination text update quality write false (Some refusal) unshut accepted = cc
makes_write keys destination text update quality write false None unshut accepted = inr (record {
  write = write_by (encode_utf8_all text) update.body write.time;
  local = refl;
  anywhere = write.anywhere;
  kept = kept_write keys destination (encode_utf8_all text) update quality write.time update.body write.replicated write.timed;
  is = ap (λ (o : Option Timestamp). timed_write (encode_utf8_all text) update.body o) write.timed;
})

pub makes_message : (keys : List ℕ) (s : Settings) (past : List Entry) (m : Message) → Makes keys (Net m) (made_by s past (Net m))
makes_message keys s past (push_message push) =
    makes_incoming keys push (is_closed past) (refusal_of s past (Net (push_message push))) (named_text past (Net (push_message push)))
makes_message keys s past m = makes_nothing keys (Net m) (is_closed past) (refusal_of s past (Net m)) (named_text past (Net m)) refl

pub makes_event : (keys : List ℕ) (s : Settings) (past : List Entry) (e : Event) → is_closed past ≡ false → IsReplicaEvent keys e → Makes keys e (made_by s past e)
makes_event keys s past (Publish destination (Text text) update quality) unshut write =
    makes_write keys destination text update quality write (is_closed past) (refusal_of s past (Publish destination (Text text) update quality)) unshut
    (publish_accepted s past destination text update quality unshut write.canonical)
makes_event keys s past (Publish destination (Number number suffix) update quality) unshut write = absurd write
makes_event keys s past (Publish destination (Declared text number prefix_len) update quality) unshut write = absurd write
makes_event keys s past (Get key settings inquiry to) unshut fine =
    makes_nothing keys (Get key settings inquiry to) (is_closed past) (refusal_of s past (Get key settings inquiry to)) (named_text past (Get key settings inquiry to)) refl
makes_event keys s past (Reply value key update quality) unshut fine =
    makes_nothing keys (Reply value key update quality) (is_closed past) (refusal_of s past (Reply value key update quality)) (named_text past (Reply value key update quality)) refl
makes_event keys s past (Finish value) unshut fine = makes_nothing keys (Finish value) (is_closed past) (refusal_of s past (Finish value)) (named_text past (Finish value)) refl
makes_event keys s past e unshut fine = absurd fine

-- none of them touches subscribers
pub message_stays : (m : Message) → Stays (Net m)
message_stays m = record {
  open_still = refl;
  declares_none = λ n text. refl;
  draws_none = λ id n. ap (λ (to : ToEntities). drew_as Subscriber id to n) (message_none m);
  ends_none = λ id. ap (ends_as Subscriber id) (message_none m);
}

pub event_stays : (keys : List ℕ) (e : Event) → IsReplicaEvent keys e → Stays e
event_stays keys (Publish destination key update quality) fine = record { open_still = refl; declares_none = λ n text. refl; draws_none = λ id n. refl; ends_none = λ id. refl }
event_stays keys (Get key settings inquiry to) fine = record { open_still = refl; declares_none = λ n text. refl; draws_none = λ id n. refl; ends_none = λ id. refl }
event_stays keys (Reply value key update quality) fine = record { open_still = refl; declares_none = λ n text. refl; draws_none = λ id n. refl; ends_none = λ id. refl }
event_stays keys (Finish value) fine = record { open_still = refl; declares_none = λ n text. refl; draws_none = λ id n. refl; ends_none = λ id. refl }
event_stays keys e fine = absurd fine
