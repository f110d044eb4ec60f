-- What an open session makes of a push that it can read.
use Rattle.std.proofs.Common.{◌≡◌, ℕ, List, [], ◌∷◌, ◌++◌, Bool, true, false, Option, Some, None, refl, ◌∙◌, ap, map, cond}
use Rattle.std.specs.Prelude.{filter, if◌then◌else◌}
use mathlib.Core.List.{append-nil}
use Rattle.zs_keys.specs.Text.{is_canonical}
use Rattle.zs_wire.specs.declared.message.Message.{Message}
use Rattle.zs_wire.specs.declared.message.Message.TheVariants.{Push as push_message}
use Rattle.zs_wire.specs.declared.push.Push.{Push}
use Rattle.zs_sample.specs.declared.locality.Locality.TheVariants.{Any}
use Rattle.zs_subscriptions.specs.declared.subscriber.SubRow.{SubRow}
use Rattle.zs_tables.specs.declared.listener.ListenerRow.{ListenerRow}
use Rattle.zs_events.specs.declared.event.Event.{Event}
use Rattle.zs_events.specs.declared.event.Event.TheVariants.{Net}
use Rattle.zs_events.specs.declared.turn.Answer.TheVariants.{Ok as accepted}
use Rattle.zs_events.specs.declared.turn.Effect.{Effect}
use Rattle.zs_events.specs.declared.turn.Effect.TheVariants.{Send, Hand, Matching}
use Rattle.zs_events.specs.declared.turn.HandOver.{HandOver}
use Rattle.zs_events.specs.declared.turn.HandOver.TheVariants.{Sample as sample_for}
use Rattle.zs_events.specs.declared.turn.Kind.TheVariants.{Subscriber}
use Rattle.zs_events.specs.declared.turn.Refusal.{Refusal}
use Rattle.zs_events.specs.declared.turn.Turn.{Turn}
use Rattle.zs_events.specs.Turn.{answered}
use Rattle.zs_events.specs.Kinds.{incoming_content}
use Rattle.zs_core.specs.Types.{Settings}
use Rattle.zs_core.specs.Entry.{Entry, is_closed}
use Rattle.zs_core.specs.HeldKeys.{wire_text}
use Rattle.zs_core.specs.Live.{live_subs}
use Rattle.zs_core.specs.Causes.{refusal_of}
use Rattle.zs_core.specs.Past.{entry_of, past_of}
use Rattle.zs_core.specs.Publications.{Publication, sample_on, allows, hands}
use Rattle.zs_core.specs.Listeners.{listener_ends}
use Rattle.zs_core.specs.Matching.{listener_effects}
use Rattle.zs_core.specs.Effects.{Known, known_of, effects_on, turn_of, effects}
use Rattle.zs_core.specs.Received.{messages_of}
use Rattle.zs_delivery.specs.Delivery.{hand_overs, takes_incoming, handed_incoming}
use Rattle.zs_delivery.proofs.Accepting.{push_accepted}

-- effects that hand nothing over and send nothing
pub record AreQuiet (fx : List Effect) : Type 0 where
  pub hands_nothing : hand_overs fx ≡ []
  pub sends_nothing : messages_of fx ≡ []

pub hands_append : (xs ys : List Effect) → hand_overs (xs ++ ys) ≡ hand_overs xs ++ hand_overs ys
hands_append [] ys = refl
hands_append (Hand item ∷ xs) ys = ap (λ (items : List HandOver). item ∷ items) (hands_append xs ys)
hands_append (x ∷ xs) ys = hands_append xs ys

pub sends_append : (xs ys : List Effect) → messages_of (xs ++ ys) ≡ messages_of xs ++ messages_of ys
sends_append [] ys = refl
sends_append (Send message ∷ xs) ys = ap (λ (ms : List Message). message ∷ ms) (sends_append xs ys)
sends_append (x ∷ xs) ys = sends_append xs ys

pub quiet_append : (xs ys : List Effect) → AreQuiet xs → AreQuiet ys → AreQuiet (xs ++ ys)
quiet_append xs ys first second = record {
  hands_nothing = hands_append xs ys ∙ ap (λ (items : List HandOver). items ++ hand_overs ys) first.hands_nothing ∙ second.hands_nothing;
  sends_nothing = sends_append xs ys ∙ ap (λ (ms : List Message). ms ++ messages_of ys) first.sends_nothing ∙ second.sends_nothing;
}

-- what listeners hear is neither
pub quiet_ends : (rows : List ListenerRow) → AreQuiet (listener_ends rows)
quiet_ends [] = record { hands_nothing = refl; sends_nothing = refl }
quiet_ends (row ∷ rows) = record { hands_nothing = (quiet_ends rows).hands_nothing; sends_nothing = (quiet_ends rows).sends_nothing }

pub quiet_heard : (after : ListenerRow → Bool) (rows : List ListenerRow) → AreQuiet (map (λ (row : ListenerRow). Matching row.id (after row)) rows)
quiet_heard after [] = record { hands_nothing = refl; sends_nothing = refl }
quiet_heard after (row ∷ rows) = record { hands_nothing = (quiet_heard after rows).hands_nothing; sends_nothing = (quiet_heard after rows).sends_nothing }

pub quiet_listeners : (past : List Entry) (x : Entry) → AreQuiet (listener_effects past x)
quiet_listeners past x = quiet_append _ _ (quiet_ends _) (quiet_heard _ _)

-- a publication that came in, on this text
abbrev pub incoming : Push → List ℕ → Publication
incoming push text = record { local = false; destination = Any; sample = sample_on text (incoming_content push) }

-- it is handed to those that take it
pub handed_is : (push : Push) (text : List ℕ) (rows : List SubRow)
    → hand_overs (hands (incoming push text) rows) ≡ handed_incoming (sample_on text (incoming_content push)) rows
handed_is push text [] = refl
handed_is push text (row ∷ rows) = go (takes_incoming text row) (handed_is push text rows)
  where
    go : (b : Bool) → hand_overs (hands (incoming push text) rows) ≡ handed_incoming (sample_on text (incoming_content push)) rows
        → hand_overs (map (λ (r : SubRow). Hand (sample_for Subscriber r.id (sample_on text (incoming_content push)))) (cond b (row ∷ filter (allows (incoming push text)) rows) (filter (allows (incoming push text)) rows)))
        ≡ map (λ (r : SubRow). sample_for Subscriber r.id (sample_on text (incoming_content push))) (cond b (row ∷ filter (takes_incoming text) rows) (filter (takes_incoming text) rows))
    go true is = ap (λ (items : List HandOver). sample_for Subscriber row.id (sample_on text (incoming_content push)) ∷ items) is
    go false is = is

pub hands_send_nothing : (p : Publication) (rows : List SubRow) → messages_of (hands p rows) ≡ []
hands_send_nothing p [] = refl
hands_send_nothing p (row ∷ rows) = go (allows p row) (hands_send_nothing p rows)
  where
    go : (b : Bool) → messages_of (hands p rows) ≡ [] → messages_of (map (λ (r : SubRow). Hand (sample_for Subscriber r.id p.sample)) (cond b (row ∷ filter (allows p) rows) (filter (allows p) rows))) ≡ []
    go true none = none
    go false none = none

-- what a readable push brings about beside what listeners hear
pub push_effects : (known : Known) (push : Push) (text : List ℕ) → effects_on known None (Some text) (Net (push_message push)) ≡ hands (incoming push text) known.subs
push_effects known push text = append-nil (hands (incoming push text) known.subs)

-- the turn of a readable push
pub record HandsOut (t : Settings) (h : List Event) (push : Push) (text : List ℕ) : Type 0 where
  pub answer : (effects t h (Net (push_message push))).answer ≡ accepted None
  pub handed : hand_overs (effects t h (Net (push_message push))).effects ≡ handed_incoming (sample_on text (incoming_content push)) (live_subs (past_of t h))
  pub silent : messages_of (effects t h (Net (push_message push))).effects ≡ []

pub turn_is : (t : Settings) (past : List Entry) (push : Push) (text : List ℕ) → is_closed past ≡ false → wire_text past push.wire ≡ Some text → is_canonical text ≡ true
    → turn_of t past (Net (push_message push))
    ≡ record { answer = accepted None; effects = hands (incoming push text) (live_subs past) ++ listener_effects past (entry_of t past (Net (push_message push))) }
turn_is t past push text unshut named canonical =
    go (is_closed past) (refusal_of t past (Net (push_message push))) (wire_text past push.wire) unshut (push_accepted t past push text unshut named canonical) named
  where
    heard : List Effect
    heard = listener_effects past (entry_of t past (Net (push_message push)))

    go : (c : Bool) (o : Option Refusal) (named : Option (List ℕ)) → c ≡ false → o ≡ None → named ≡ Some text
        → (if c then answered o None [] else answered o None (effects_on (known_of t past) None named (Net (push_message push)) ++ listener_effects past (entry_of t past (Net (push_message push)))))
        ≡ record { answer = accepted None; effects = hands (incoming push text) (live_subs past) ++ listener_effects past (entry_of t past (Net (push_message push))) }
    go true o named unshut is at = cc
    go false (Some refusal) named unshut is at = cc
    go false None named unshut is at =
        ap (λ (x : Option (List ℕ)). answered None None (effects_on (known_of t past) None x (Net (push_message push)) ++ listener_effects past (entry_of t past (Net (push_message push))))) at
        ∙ ap (λ (fx : List Effect). answered None None (fx ++ listener_effects past (entry_of t past (Net (push_message push))))) (push_effects (known_of t past) push text)

pub hands_out : (t : Settings) (h : List Event) (push : Push) (text : List ℕ) → is_closed (past_of t h) ≡ false → wire_text (past_of t h) push.wire ≡ Some text → is_canonical text ≡ true
    → HandsOut t h push text
hands_out t h push text unshut named canonical =
    let past = past_of t h in
    let heard = listener_effects past (entry_of t past (Net (push_message push))) in
    let turn : effects t h (Net (push_message push)) ≡ record { answer = accepted None; effects = hands (incoming push text) (live_subs past) ++ heard } = turn_is t past push text unshut named canonical in
    let quiet : AreQuiet heard = quiet_listeners past (entry_of t past (Net (push_message push))) in
    record {
      answer = ap (λ (made : Turn). made.answer) turn;
      handed =
          ap (λ (made : Turn). hand_overs made.effects) turn
          ∙ hands_append (hands (incoming push text) (live_subs past)) heard
          ∙ ap (λ (items : List HandOver). hand_overs (hands (incoming push text) (live_subs past)) ++ items) quiet.hands_nothing
          ∙ append-nil (hand_overs (hands (incoming push text) (live_subs past)))
          ∙ handed_is push text (live_subs past);
      silent =
          ap (λ (made : Turn). messages_of made.effects) turn
          ∙ sends_append (hands (incoming push text) (live_subs past)) heard
          ∙ ap (λ (ms : List Message). messages_of (hands (incoming push text) (live_subs past)) ++ ms) quiet.sends_nothing
          ∙ append-nil (messages_of (hands (incoming push text) (live_subs past)))
          ∙ hands_send_nothing (incoming push text) (live_subs past);
    }
