-- Which effects hand queries to the queryable of a store: those of gets and requests, and no others.
use Rattle.std.proofs.Common.{◌≡◌, ℕ, List, [], ◌∷◌, ◌++◌, Bool, true, false, Option, Some, None, refl, sym, ◌∙◌, ap, cond, map}
use Rattle.std.specs.Prelude.{◌&&◌, not, filter, if◌then◌else◌}
use Rattle.std.proofs.lemmas.List.{append_assoc}
use Rattle.zs_sample.specs.Reply.{Replied}
use Rattle.zs_wire.specs.declared.message.Message.{Message}
use Rattle.zs_tables.specs.MatchingLaws.{differ}
use Rattle.zs_tables.specs.declared.listener.ListenerRow.{ListenerRow}
use Rattle.zs_subscriptions.specs.declared.subscriber.SubRow.{SubRow}
use Rattle.zs_query.specs.declared.outcome.Outcome.{Outcome}
use Rattle.zs_query.specs.declared.outcome.Outcome.TheVariants as outcome
use Rattle.zs_query.specs.declared.outcome.Peek.{Peek}
use Rattle.zs_query.specs.declared.outcome.Peek.TheVariants as peek
use Rattle.zs_events.specs.declared.event.Event.{Event}
use Rattle.zs_events.specs.declared.turn.Effect.{Effect}
use Rattle.zs_events.specs.declared.turn.Effect.TheVariants.{Send, Hand, Matching}
use Rattle.zs_events.specs.declared.turn.HandOver.TheVariants.{Sample as sample_for}
use Rattle.zs_events.specs.declared.turn.Kind.TheVariants.{Subscriber}
use Rattle.zs_events.specs.Kinds.{NamedKey, Publishes, NoContent, OwnContent, ByPublisher}
use Rattle.zs_model.specs.Entry.{Entry}
use Rattle.zs_model.specs.GetEffects.{hand_reply, end_get, reply_effects, final_effects}
use Rattle.zs_model.specs.Groups.{sends_if}
use Rattle.zs_model.specs.Listeners.{is_listener, listener_ends}
use Rattle.zs_model.specs.Live.{live_listeners}
use Rattle.zs_model.specs.Matching.{turned, is_matched, listener_effects}
use Rattle.zs_model.specs.Publications.{Publication, sample_on, allows, hands}
use Rattle.zs_model.specs.Sends.{OwnKeys, wire_form, declaration_of, is_sent, push_with, publication_sends}
use Rattle.zs_model.specs.Effects.{publication_on, hands_for}
use Rattle.zs_keeping.specs.Answering.{effect_answers, answers_to}
use Rattle.zs_store.specs.Store.{Write}
use Rattle.zs_replica_gets.specs.Steps.{answerer}

-- effects that hand it no query
abbrev pub AsksNone : List Effect → Type 0
AsksNone fx = (store : List Write) → answers_to answerer store fx ≡ []

pub answers_append : (store : List Write) (xs ys : List Effect) → answers_to answerer store (xs ++ ys) ≡ answers_to answerer store xs ++ answers_to answerer store ys
answers_append store [] ys = refl
answers_append store (x ∷ xs) ys =
    ap (λ (rest : List Event). effect_answers answerer store x ++ rest) (answers_append store xs ys)
    ∙ sym (append_assoc (effect_answers answerer store x) (answers_to answerer store xs) (answers_to answerer store ys))

pub none_append : (xs ys : List Effect) → AsksNone xs → AsksNone ys → AsksNone (xs ++ ys)
none_append xs ys first second store =
    answers_append store xs ys ∙ (λ i. first store i ++ second store i)

pub none_nothing : AsksNone []
none_nothing store = refl

none_ends : (rows : List ListenerRow) → AsksNone (listener_ends rows)
none_ends [] store = refl
none_ends (row ∷ rows) store = none_ends rows store

none_turned : (after : ListenerRow → Bool) (rows : List ListenerRow) → AsksNone (map (λ (row : ListenerRow). Matching row.id (after row)) rows)
none_turned after [] store = refl
none_turned after (row ∷ rows) store = none_turned after rows store

pub none_listeners : (past : List Entry) (x : Entry) → AsksNone (listener_effects past x)
none_listeners past x =
    let ended = filter (λ (row : ListenerRow). not (is_listener row.id (live_listeners (x ∷ past)))) (live_listeners past) in
    let before : ListenerRow → Bool = λ row. is_listener row.id (live_listeners past) && is_matched past row in
    let after : ListenerRow → Bool = is_matched (x ∷ past) in
    let hearing = filter (λ (row : ListenerRow). differ (before row) (after row)) (live_listeners (x ∷ past)) in
    none_append (listener_ends ended) (turned before after (live_listeners (x ∷ past))) (none_ends ended) (none_turned after hearing)

none_hands : (p : Publication) (rows : List SubRow) → AsksNone (hands p rows)
none_hands p [] store = refl
none_hands p (row ∷ rows) store = go (allows p row) (none_hands p rows store)
  where
    go : (b : Bool) → answers_to answerer store (hands p rows) ≡ []
        → answers_to answerer store (map (λ (row : SubRow). Hand (sample_for Subscriber row.id p.sample)) (cond b (row ∷ filter (allows p) rows) (filter (allows p) rows))) ≡ []
    go true ih = ih
    go false ih = ih

pub none_handed : (rows : List SubRow) (text : Option (List ℕ)) (p : Publishes) → AsksNone (hands_for rows (publication_on text p))
none_handed rows None NoContent store = refl
none_handed rows (Some text) NoContent store = refl
none_handed rows None (OwnContent c) store = refl
none_handed rows (Some text) (OwnContent c) store = none_hands (record { local = c.local; destination = c.destination; sample = sample_on text c }) rows store
none_handed rows None (ByPublisher id update) store = refl
none_handed rows (Some text) (ByPublisher id update) store = refl

pub none_published : (k : OwnKeys) (key : NamedKey) (text : Option (List ℕ)) (p : Publishes) → AsksNone (publication_sends k key text p)
none_published k key None NoContent store = refl
none_published k key (Some text) NoContent store = refl
none_published k key None (OwnContent c) store = refl
none_published k key (Some text) (OwnContent c) store = go (is_sent c)
  where
    go : (b : Bool) → answers_to answerer store (if b then Send (push_with (wire_form k text (declaration_of k text key)) c) ∷ [] else []) ≡ []
    go true = refl
    go false = refl
none_published k key None (ByPublisher id update) store = refl
none_published k key (Some text) (ByPublisher id update) store = refl

-- what an event sends that publishes, and whom it hands that
pub none_beside : (k : OwnKeys) (key : NamedKey) (text : Option (List ℕ)) (p q : Publishes) (rows : List SubRow)
    → AsksNone (((publication_sends k key text p ++ []) ++ hands_for rows (publication_on text q)) ++ [])
none_beside k key text p q rows =
    none_append ((publication_sends k key text p ++ []) ++ hands_for rows (publication_on text q)) []
    (none_append (publication_sends k key text p ++ []) (hands_for rows (publication_on text q))
    (none_append (publication_sends k key text p) [] (none_published k key text p) none_nothing) (none_handed rows text q)) none_nothing

pub none_sent_if : (b : Bool) (m : Message) → AsksNone (sends_if b m)
none_sent_if true m store = refl
none_sent_if false m store = refl

pub none_replied : (p : Peek) (number : ℕ) (reply : Replied) → AsksNone (reply_effects p number reply)
none_replied peek.Handed number reply store = refl
none_replied peek.Unknown number reply store = refl
none_replied peek.Unmatched number reply store = refl
none_replied peek.Kept number reply store = refl
none_replied peek.Dropped number reply store = refl

none_replies : (number : ℕ) (replies : List Replied) → AsksNone (map (hand_reply number) replies)
none_replies number [] store = refl
none_replies number (reply ∷ replies) store = none_replies number replies store

pub none_final : (number : ℕ) (out : Outcome) → AsksNone (final_effects number out)
none_final number (outcome.Ended replies) = none_append (map (hand_reply number) replies) (end_get number ∷ []) (none_replies number replies) (λ store. refl)
none_final number outcome.Counted = none_nothing
none_final number outcome.Unknown = none_nothing
none_final number outcome.Unmatched = none_nothing
none_final number outcome.Kept = none_nothing
none_final number outcome.Dropped = none_nothing
none_final number (outcome.Handed reply) = none_nothing
none_final number outcome.Repeated = none_nothing
