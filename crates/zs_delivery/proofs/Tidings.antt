-- What linked sessions were told of one another.
use Rattle.std.proofs.Common.{◌≡◌, ℕ, List, [], ◌∷◌, Option, refl, sym, ◌∙◌, ap, subst, cond}
use Rattle.std.specs.Prelude.{◌==◌, option_map, filter, None}
use Rattle.zs_keys.specs.Key.{undeclared}
use Rattle.zs_wire.specs.declared.message.Message.{Message}
use Rattle.zs_wire.specs.declared.message.Message.TheVariants.{DeclareSubscriber, UndeclareSubscriber, DeclareQueryable, UndeclareQueryable}
use Rattle.zs_tables.specs.declared.remote_row.RemoteSubscriber.{RemoteSubscriber}
use Rattle.zs_tables.specs.declared.remote_row.RemoteQueryable.{RemoteQueryable}
use Rattle.zs_core.specs.Types.{Settings}
use Rattle.zs_core.specs.Past.{past_of}
use Rattle.zs_core.specs.Received.{sent, sent_behind, read_as, AreSpelled, AreUtf8}
use Rattle.zs_core.specs.Laws.{WireFormsAreRead}
use Rattle.zs_laws.specs.Origins.{MessagesHaveOrigins}
use Rattle.zs_laws.specs.Spelled.{SpelledTextsAreUtf8, SentKeysAreSpelled}
use Rattle.zs_delivery.specs.Linked.{Side, LinkLine, other, is_event, linked_after}
use Rattle.zs_delivery.specs.Links.{AreOwn, AreSpelledLines, given, Way, Ways}
use Rattle.zs_delivery.specs.Told.{declared_sub, declared_queryable, WasTold, TellsAll, BothTell, AreCanonical}
use Rattle.zs_delivery.proofs.Order.{ways_after}
use Rattle.zs_delivery.proofs.Known.{AreSound, same_reading}
use Rattle.zs_delivery.proofs.Spelling.{BothSpelled, spelled_after}
use Rattle.zs_delivery.proofs.Made.{AreSent, sent_after, delivered_sent, sound_delivered}
use Rattle.zs_delivery.proofs.Telling.{AreDeclared, told_after}
use Rattle.zs_delivery.proofs.Declared.{declared_after, declared_delivered}

-- interests declare neither
pub same_sub : (id : ℕ) (ms : List Message) → declared_sub id (filter is_event ms) ≡ declared_sub id ms
same_sub id [] = refl
same_sub id (DeclareSubscriber number wire ∷ ms) =
    ap (λ (o : Option (List ℕ)). cond (number == id) (option_map (λ (text : List ℕ). record { number = number; key = undeclared text }) o) (declared_sub id (filter is_event ms))) (same_reading ms wire)
    ∙ ap (λ (o : Option RemoteSubscriber). cond (number == id) (option_map (λ (text : List ℕ). record { number = number; key = undeclared text }) (read_as ms wire)) o) (same_sub id ms)
same_sub id (UndeclareSubscriber number ∷ ms) = ap (λ (o : Option RemoteSubscriber). cond (number == id) None o) (same_sub id ms)
same_sub id (m ∷ ms) = same_sub id ms

pub same_queryable : (id : ℕ) (ms : List Message) → declared_queryable id (filter is_event ms) ≡ declared_queryable id ms
same_queryable id [] = refl
same_queryable id (DeclareQueryable number complete wire ∷ ms) =
    ap (λ (o : Option (List ℕ)). cond (number == id) (option_map (λ (text : List ℕ). record { number = number; complete = complete; key = undeclared text }) o) (declared_queryable id (filter is_event ms))) (same_reading ms wire)
    ∙ ap (λ (o : Option RemoteQueryable). cond (number == id) (option_map (λ (text : List ℕ). record { number = number; complete = complete; key = undeclared text }) (read_as ms wire)) o) (same_queryable id ms)
same_queryable id (UndeclareQueryable number ∷ ms) = ap (λ (o : Option RemoteQueryable). cond (number == id) None o) (same_queryable id ms)
same_queryable id (m ∷ ms) = same_queryable id ms

module _ (forms : WireFormsAreRead) (origins : MessagesHaveOrigins) where
  pub tells_all : (s t : Settings) (from to : Side) → Way s from to.history → AreSpelled s → AreCanonical s → AreUtf8 (past_of s from.history) → TellsAll s t from to
  tells_all s t from to way spelled canonical utf8 idle unshut =
      let order : sent s from.history ≡ way.delivered = way.sent_is ∙ ap (λ (ms : List Message). sent_behind ms way.delivered) idle in
      let sound : AreSound (given to.history) =
      subst AreSound (sym way.given_is) (sound_delivered s from.history way.delivered (delivered_sent s from.history from.waiting way.delivered (subst (AreSent s from.history) way.sent_is (sent_after s from.history forms origins spelled utf8)))) in
      let readable : AreDeclared (given to.history) =
      subst AreDeclared (sym way.given_is) (declared_delivered way.delivered (subst AreDeclared order (declared_after s from.history forms origins spelled canonical utf8))) in
      let told : WasTold (past_of t to.history) (given to.history) = told_after t to.history unshut sound readable in
      record {
        subs = λ id. told.subs id ∙ ap (declared_sub id) way.given_is ∙ same_sub id way.delivered ∙ ap (declared_sub id) (sym order);
        queryables = λ id. told.queryables id ∙ ap (declared_queryable id) way.given_is ∙ same_queryable id way.delivered ∙ ap (declared_queryable id) (sym order);
      }

  pub both_tell : SpelledTextsAreUtf8 → SentKeysAreSpelled → (s : Settings) (h : List LinkLine) → AreSpelled s → AreCanonical s → AreOwn h → AreSpelledLines h
      → BothTell s (linked_after s h).a (linked_after s h).b
  both_tell texts keys s h aggregates canonical own spelled =
      let w = linked_after s h in
      let ways : Ways s w.a w.b = ways_after s h own in
      let all : BothSpelled w.a w.b = spelled_after keys s aggregates h spelled in
      record {
        forth = tells_all s (other s) w.a w.b ways.forth aggregates canonical (texts s w.a.history all.a.history).0;
        back = tells_all (other s) s w.b w.a ways.back aggregates canonical (texts (other s) w.b.history all.b.history).0;
      }
