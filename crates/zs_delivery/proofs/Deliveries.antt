-- The theorem of delivery.
use Rattle.std.proofs.Common.{◌≡◌, List, ◌∷◌, Some, sym, ◌∙◌, ap, subst}
use Rattle.zs_wire.specs.declared.message.Message.{Message}
use Rattle.zs_wire.specs.declared.message.Message.TheVariants.{Push as push_message}
use Rattle.zs_sample.specs.declared.sample_fields.SampleFields.{SampleFields}
use Rattle.zs_core.specs.Types.{Settings}
use Rattle.zs_core.specs.Live.{live_subs}
use Rattle.zs_core.specs.Past.{past_of}
use Rattle.zs_core.specs.Received.{sent, sent_behind, read_as, AreSpelled, AreUtf8}
use Rattle.zs_core.specs.Laws.{WireFormsAreRead}
use Rattle.zs_laws.specs.Origins.{MessagesHaveOrigins}
use Rattle.zs_laws.specs.Spelled.{SpelledTextsAreUtf8, SentKeysAreSpelled}
use Rattle.zs_delivery.specs.Linked.{Side, LinkLine, other, linked_after}
use Rattle.zs_delivery.specs.Links.{AreOwn, AreSpelledLines, given, Way, Ways}
use Rattle.zs_delivery.specs.Delivery.{handed_incoming, HandsPushes, BothHand}
use Rattle.zs_delivery.proofs.Order.{ways_after}
use Rattle.zs_delivery.proofs.Known.{AreSound, Knows, same_reading, wire_known, known_after}
use Rattle.zs_delivery.proofs.Handing.{HandsOut, hands_out}
use Rattle.zs_delivery.proofs.Spelling.{BothSpelled, spelled_after}
use Rattle.zs_delivery.proofs.Made.{AreSent, IsPushed, sent_after, delivered_sent, sound_delivered}

module _ (forms : WireFormsAreRead) (origins : MessagesHaveOrigins) where
  pub hands_pushes : (s t : Settings) (from to : Side) → Way s from to.history → AreSpelled s → AreUtf8 (past_of s from.history) → HandsPushes s t from to
  hands_pushes s t from to way spelled utf8 push later waits unshut =
      let past = past_of t to.history in
      let order : sent s from.history ≡ sent_behind later (push_message push ∷ way.delivered) = way.sent_is ∙ ap (λ (ms : List Message). sent_behind ms way.delivered) waits in
      let all : AreSent s from.history (push_message push ∷ way.delivered) =
      delivered_sent s from.history later (push_message push ∷ way.delivered) (subst (AreSent s from.history) order (sent_after s from.history forms origins spelled utf8)) in
      let pushed : IsPushed s from.history way.delivered push = all.0 in
      let sound : AreSound (given to.history) = subst AreSound (sym way.given_is) (sound_delivered s from.history way.delivered all.1) in
      let knows : Knows past (given to.history) = known_after t to.history unshut sound in
      let reads : read_as (given to.history) push.wire ≡ Some pushed.readable.text =
      ap (λ (ms : List Message). read_as ms push.wire) way.given_is ∙ same_reading way.delivered push.wire ∙ pushed.readable.reads in
      let out : HandsOut t to.history push pushed.readable.text =
      hands_out t to.history push pushed.readable.text unshut (wire_known past (given to.history) push.wire pushed.readable.text knows reads) pushed.readable.canonical in
      record {
        publication = pushed.publication;
        made = pushed.made;
        answer = out.answer;
        handed = out.handed ∙ ap (λ (sample : SampleFields). handed_incoming sample (live_subs past)) (sym pushed.sample);
        silent = out.silent;
      }

  pub both_hand : SpelledTextsAreUtf8 → SentKeysAreSpelled → (s : Settings) (h : List LinkLine) → AreSpelled s → AreOwn h → AreSpelledLines h
      → BothHand s (linked_after s h).a (linked_after s h).b
  both_hand texts keys s h aggregates own spelled =
      let w = linked_after s h in
      let ways : Ways s w.a w.b = ways_after s h own in
      let all : BothSpelled w.a w.b = spelled_after keys s aggregates h spelled in
      record {
        forth = hands_pushes s (other s) w.a w.b ways.forth aggregates (texts s w.a.history all.a.history).0;
        back = hands_pushes (other s) s w.b w.a ways.back aggregates (texts (other s) w.b.history all.b.history).0;
      }
