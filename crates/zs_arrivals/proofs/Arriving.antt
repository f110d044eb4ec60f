-- What arrives at an open side is what the other published.
use Rattle.std.proofs.Common.{List, Option, sym, ◌∙◌, ap, subst}
use Rattle.std.specs.Prelude.{drop, Some}
use Rattle.std.proofs.lemmas.List.{drop-map}
use Rattle.zs_sample.specs.declared.sample_fields.SampleFields.{SampleFields}
use Rattle.zs_wire.specs.declared.message.Message.{Message}
use Rattle.zs_model.specs.declared.settings.Settings.{Settings}
use Rattle.zs_model.specs.Past.{past_of}
use Rattle.zs_model.specs.Received.{AreSpelled, AreUtf8}
use Rattle.zs_standing.specs.Laws.{WireFormsAreRead}
use Rattle.zs_laws.specs.Origins.{MessagesHaveOrigins}
use Rattle.zs_laws.specs.Spelled.{SpelledTextsAreUtf8, SentKeysAreSpelled}
use Rattle.zs_delivery.specs.Linked.{Side, LinkLine, other, linked_after}
use Rattle.zs_delivery.specs.Links.{AreOwn, AreSpelledLines, given, Way, Ways}
use Rattle.zs_delivery.proofs.Order.{ways_after}
use Rattle.zs_delivery.proofs.Known.{AreSound}
use Rattle.zs_delivery.proofs.Spelling.{BothSpelled, spelled_after}
use Rattle.zs_delivery.proofs.Made.{AreSent, sent_after, delivered_sent, sound_delivered}
use Rattle.zs_arrivals.specs.Publications.{published, arrived}
use Rattle.zs_arrivals.specs.Arrivals.{pushes, Arrive, BothArrive}
use Rattle.zs_arrivals.proofs.Reading.{reads, published_reads, arrived_reads, same_reads, reads_behind, same_found}

module _ (forms : WireFormsAreRead) (origins : MessagesHaveOrigins) where
  arrives : (s t : Settings) (from to : Side) → Way s from to.history → AreSpelled s → AreUtf8 (past_of s from.history) → Arrive s t from to
  arrives s t from to way spelled utf8 unshut =
      let count = pushes from.waiting in
      let sound : AreSound (given to.history) =
      subst AreSound (sym way.given_is) (sound_delivered s from.history way.delivered (delivered_sent s from.history from.waiting way.delivered (subst (AreSent s from.history) way.sent_is (sent_after s from.history forms origins spelled utf8)))) in
      same_found (arrived t to.history) (drop count (published s from.history))
      (arrived_reads t to.history unshut sound
      ∙ ap reads way.given_is
      ∙ same_reads way.delivered
      ∙ sym (reads_behind from.waiting way.delivered)
      ∙ ap (λ (ms : List Message). drop count (reads ms)) (sym way.sent_is)
      ∙ ap (λ (samples : List (Option SampleFields)). drop count samples) (published_reads s from.history forms origins spelled utf8)
      ∙ drop-map (λ (sample : SampleFields). Some sample) count (published s from.history))

  pub both_arrive : SpelledTextsAreUtf8 → SentKeysAreSpelled → (s : Settings) (h : List LinkLine) → AreSpelled s → AreOwn h → AreSpelledLines h
      → BothArrive s (linked_after s h).a (linked_after s h).b
  both_arrive texts keys s h aggregates own spelled =
      let w = linked_after s h in
      let ways : Ways s w.a w.b = ways_after s h own in
      let all : BothSpelled w.a w.b = spelled_after keys s aggregates h spelled in
      record {
        forth = arrives s (other s) w.a w.b ways.forth aggregates (texts s w.a.history all.a.history).0;
        back = arrives (other s) s w.b w.a ways.back aggregates (texts (other s) w.b.history all.b.history).0;
      }
