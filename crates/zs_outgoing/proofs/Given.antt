-- A publication is handed out and sent.
use Rattle.std.proofs.Common.{◌≡◌, ℕ, List, [], ◌∷◌, ◌++◌, Bool, true, false, Option, Some, None, refl, sym, ◌∙◌, ap, subst}
use Rattle.std.specs.Prelude.{◌&&◌, if◌then◌else◌}
use mathlib.Core.List.{append-nil}
use Rattle.zs_wire.specs.declared.message.Message.{Message}
use Rattle.zs_wire.specs.declared.wire_expr.WireExpr.{WireExpr}
use Rattle.zs_subscriptions.specs.declared.subscriber.SubRow.{SubRow}
use Rattle.zs_subscriptions.specs.Recipients.{has_network}
use Rattle.zs_events.specs.declared.event.Event.{Event}
use Rattle.zs_events.specs.declared.event.Event.TheVariants.{Publish, PublishBy, Net}
use Rattle.zs_events.specs.declared.publication.Content.{Content}
use Rattle.zs_events.specs.declared.turn.Answer.TheVariants.{Ok as accepted}
use Rattle.zs_events.specs.declared.turn.Effect.{Effect}
use Rattle.zs_events.specs.declared.turn.Effect.TheVariants.{Send}
use Rattle.zs_events.specs.declared.turn.HandOver.{HandOver}
use Rattle.zs_events.specs.declared.turn.Refusal.{Refusal}
use Rattle.zs_events.specs.declared.turn.Turn.{Turn}
use Rattle.zs_events.specs.Turn.{answered}
use Rattle.zs_events.specs.Kinds.{NamedKey, Publishes, NoContent, OwnContent, ByPublisher, row_of}
use Rattle.zs_core.specs.Types.{Settings}
use Rattle.zs_core.specs.Entry.{is_closed}
use Rattle.zs_core.specs.HeldKeys.{named_text}
use Rattle.zs_core.specs.Live.{live_subs, live_pubs}
use Rattle.zs_core.specs.Causes.{refusal_of}
use Rattle.zs_core.specs.Past.{entry_of, past_of}
use Rattle.zs_core.specs.Publications.{Publication, sample_on, hands}
use Rattle.zs_core.specs.Publishers.{resolved}
use Rattle.zs_core.specs.Sends.{OwnKeys, wire_form, declaration_of, is_sent, push_sends, push_with, publication_sends}
use Rattle.zs_core.specs.Matching.{listener_effects}
use Rattle.zs_core.specs.Effects.{known_of, own_keys_of, publication_on, publication_of, hands_for, effects_on, effects}
use Rattle.zs_core.specs.Received.{messages_of}
use Rattle.zs_delivery.specs.Delivery.{hand_overs}
use Rattle.zs_outgoing.specs.Published.{handed_own, IsSentOnce, IsGivenOut, PublicationsAreGivenOut}
use Rattle.zs_outgoing.proofs.Quiet.{AreQuiet, hands_append, sends_append, quiet_listeners, hands_send_nothing, hands_are}

none_made : {p : Publication} → None ≡ Some p → ⊥
none_made h = cc

made_is : {p q : Publication} → Some p ≡ Some q → p ≡ q
made_is h = cc

-- what effects hand out and send of a publication
record Gives (p : Publication) (rows : List SubRow) (fx : List Effect) : Type 0 where
  pub handed : hand_overs fx ≡ handed_own p rows
  pub sent : IsSentOnce (p.local && has_network p.destination) p (messages_of fx)

-- the publication of this content on this text
abbrev made_of : List ℕ → Content → Publication
made_of text c = record { local = c.local; destination = c.destination; sample = sample_on text c }

gives_content : (text : List ℕ) (c : Content) (wire : WireExpr) (rows : List SubRow) (b : Bool)
    → (hand_overs ((if b then Send (push_with wire c) ∷ [] else []) ++ [] ++ hands (made_of text c) rows ++ []) ≡ handed_own (made_of text c) rows)
    × IsSentOnce b (made_of text c) (messages_of ((if b then Send (push_with wire c) ∷ [] else []) ++ [] ++ hands (made_of text c) rows ++ []))
gives_content text c wire rows true = (
  ap hand_overs (append-nil (hands (made_of text c) rows)) ∙ hands_are (made_of text c) rows,
  (
    record { wire = wire; body = c.body; qos = c.qos; reliable = c.reliable },
    ap (λ (ms : List Message). push_with wire c ∷ ms) (ap messages_of (append-nil (hands (made_of text c) rows)) ∙ hands_send_nothing (made_of text c) rows),
    refl,
  ),
)
gives_content text c wire rows false = (
  ap hand_overs (append-nil (hands (made_of text c) rows)) ∙ hands_are (made_of text c) rows,
  ap messages_of (append-nil (hands (made_of text c) rows)) ∙ hands_send_nothing (made_of text c) rows,
)

gives : (k : OwnKeys) (key : NamedKey) (text : Option (List ℕ)) (r : Publishes) (rows : List SubRow) (p : Publication) → publication_on text r ≡ Some p
    → Gives p rows (publication_sends k key text r ++ [] ++ hands_for rows (publication_on text r) ++ [])
gives k key text NoContent rows p is = absurd (none_made is)
gives k key None (OwnContent c) rows p is = absurd (none_made is)
gives k key text (ByPublisher id c) rows p is = absurd (none_made is)
gives k key (Some text) (OwnContent c) rows p is =
    subst (λ q. Gives q rows (push_sends k text (declaration_of k text key) c ++ [] ++ hands (made_of text c) rows ++ [])) (made_is is)
    (let both = gives_content text c (wire_form k text (declaration_of k text key)) rows (is_sent c) in record { handed = both.0; sent = both.1 })

-- the turn of an event that publishes and does nothing else
given : (s : Settings) (h : List Event) (e : Event) (p : Publication) → is_closed (past_of s h) ≡ false → refusal_of s (past_of s h) e ≡ None
    → (entry_of s (past_of s h) e).number ≡ None
    → effects_on (known_of s (past_of s h)) None (named_text (past_of s h) e) e
    ≡ publication_sends (own_keys_of s (past_of s h)) (row_of e).key (named_text (past_of s h) e) (resolved (live_pubs (past_of s h)) (row_of e).publishes)
    ++ [] ++ hands_for (live_subs (past_of s h)) (publication_of (live_pubs (past_of s h)) (named_text (past_of s h) e) e) ++ []
    → publication_of (live_pubs (past_of s h)) (named_text (past_of s h) e) e ≡ Some p
    → IsGivenOut s h e p
given s h e p unshut accepts unnumbered fx published =
    let past = past_of s h in
    let heard = listener_effects past (entry_of s past e) in
    let quiet : AreQuiet heard = quiet_listeners past (entry_of s past e) in
    let own = effects_on (known_of s past) None (named_text past e) e in
    let turn : effects s h e ≡ record { answer = accepted None; effects = own ++ heard } =
    turned (is_closed past) (refusal_of s past e) (entry_of s past e).number unshut accepts unnumbered in
    let made : Gives p (live_subs past) own =
    subst (Gives p (live_subs past)) (sym fx)
    (gives (own_keys_of s past) (row_of e).key (named_text past e) (resolved (live_pubs past) (row_of e).publishes) (live_subs past) p published) in
    record {
      answer = ap (λ (t : Turn). t.answer) turn;
      handed =
          ap (λ (t : Turn). hand_overs t.effects) turn
          ∙ (hands_append own heard
          ∙ (ap (λ (items : List HandOver). hand_overs own ++ items) quiet.hands_nothing
          ∙ (append-nil (hand_overs own) ∙ made.handed)));
      sent =
          subst (IsSentOnce (p.local && has_network p.destination) p)
          (sym (ap (λ (t : Turn). messages_of t.effects) turn
          ∙ (sends_append own heard
          ∙ (ap (λ (ms : List Message). messages_of own ++ ms) quiet.sends_nothing
          ∙ append-nil (messages_of own)))))
          made.sent;
    }
  where
    turned : (c : Bool) (o : Option Refusal) (number : Option ℕ) → c ≡ false → o ≡ None → number ≡ None
        → (if c then answered o None [] else answered o number (effects_on (known_of s (past_of s h)) number (named_text (past_of s h) e) e ++ listener_effects (past_of s h) (entry_of s (past_of s h) e)))
        ≡ record { answer = accepted None; effects = effects_on (known_of s (past_of s h)) None (named_text (past_of s h) e) e ++ listener_effects (past_of s h) (entry_of s (past_of s h) e) }
    turned true o number closed none unnumbered = absurd (cc)
    turned false (Some refusal) number closed none unnumbered = absurd (cc)
    turned false None (Some n) closed none unnumbered = absurd (cc)
    turned false None None closed none unnumbered = refl

pub given_out : PublicationsAreGivenOut
given_out s h (Publish destination key update quality) p unshut accepts own published = given s h (Publish destination key update quality) p unshut accepts refl refl published
given_out s h (PublishBy id update) p unshut accepts own published = given s h (PublishBy id update) p unshut accepts refl refl published
given_out s h (Net message) p unshut accepts own published = absurd (cc)
given_out s h e p unshut accepts own published = absurd (none_made published)
