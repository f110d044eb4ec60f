-- What was sent tells its receiver the numbers that stand for keys, and so each key that is sent is read as its text.
use Rattle.std.proofs.Common.{◌≡◌, ℕ, List, [], Option, sym, subst}
use Rattle.std.specs.Prelude.{IsUtf8}
use Rattle.std.specs.Option.{IfSome}
use Rattle.zs_events.specs.declared.event.Event.{Event}
use Rattle.zs_events.specs.declared.turn.Turn.{Turn}
use Rattle.zs_events.specs.Kinds.{row_of}
use Rattle.zs_model.specs.Values.{handing_of}
use Rattle.zs_model.specs.declared.settings.Settings.{Settings}
use Rattle.zs_world.specs.declared.change.Decision.{Decision}
use Rattle.zs_model.specs.Entry.{Entry}
use Rattle.zs_model.specs.HeldKeys.{named_text}
use Rattle.zs_model.specs.Past.{past_of}
use Rattle.zs_model.specs.Effects.{effects}
use Rattle.zs_world.specs.Decisions.{text_for, number_for, decision}
use Rattle.zs_standing.specs.Stands.{world_after}
use Rattle.zs_model.specs.Received.{messages_of, sent, spoken_by, spoken_text, AreReadAs, AreSpelled, AreUtf8}
use Rattle.zs_standing.proofs.Decisions.{cases}
use Rattle.zs_laws.proofs.SpelledTexts.{values_spelled, spoken_spelled}
use Rattle.zs_standing.proofs.Stands.{standing, same_text}
use Rattle.zs_laws.proofs.SentMessages.{all_messages, same_messages}
use Rattle.zs_laws.proofs.Reading.{event_read}
use Rattle.zs_laws.proofs.ToldNumbers.{told_after}

-- so each message that is sent is read as what it has to be
pub keys_read : (s : Settings) (h : List Event) (e : Event) → AreSpelled s → AreUtf8 (past_of s h) → IfSome (named_text (past_of s h) e) IsUtf8
    → AreReadAs s (spoken_text (past_of s h) e) (sent s h) (messages_of (effects s h e).effects)
keys_read s h e aggregates utf8 spelled =
    let w = world_after s h in
    let st = standing s h in
    let text : text_for w e ≡ named_text (past_of s h) e = same_text s w (past_of s h) e st in
    let handing : w.handing ≡ handing_of (past_of s h) = st.handing in
    let spoken : spoken_by w.handing.values (row_of e).to_values (text_for w e) ≡ spoken_text (past_of s h) e = λ i. spoken_by (handing i).values (row_of e).to_values (text i) in
    let same : messages_of (decision w e).turn.effects ≡ messages_of (effects s h e).effects = same_messages s w (past_of s h) e st in
    let own : IfSome (text_for w e) IsUtf8 = subst (λ (o : Option (List ℕ)). IfSome o IsUtf8) (sym text) spelled in
    let by_text = spoken_by w.handing.values (row_of e).to_values (text_for w e) in
    let P = λ (d : Decision) (past : List Entry). AreReadAs w.settings by_text (sent s h) (messages_of d.turn.effects) in
    let by_tables : AreReadAs w.settings by_text (sent s h) (messages_of (decision w e).turn.effects) =
    cases w e (past_of s h) P (λ refusal number fx c. tt) (λ shut. tt)
    (λ unshut accepted.
    subst (AreReadAs w.settings by_text (sent s h)) (sym (all_messages w e))
    (event_read w (number_for w e) (text_for w e) e (sent s h) (told_after s h unshut utf8) (subst AreSpelled (sym st.settings) aggregates) own
    (spoken_spelled w.handing.values (row_of e).to_values (text_for w e) (values_spelled s h utf8) own))) in
    subst (λ (t : Settings). AreReadAs t (spoken_text (past_of s h) e) (sent s h) (messages_of (effects s h e).effects)) st.settings
    (subst (λ (o : Option (List ℕ)). AreReadAs w.settings o (sent s h) (messages_of (effects s h e).effects)) spoken
    (subst (AreReadAs w.settings by_text (sent s h)) same by_tables))
