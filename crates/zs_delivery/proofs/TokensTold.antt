-- What linked sessions were told of one another's tokens.
use Rattle.std.proofs.Common.{◌≡◌, ℕ, List, [], ◌∷◌, Option, None, refl, sym, ◌∙◌, ap, subst, cond}
use Rattle.std.specs.Prelude.{◌==◌, option_map, filter}
use Rattle.zs_keys.specs.Key.{undeclared}
use Rattle.zs_wire.specs.declared.message.Message.{Message}
use Rattle.zs_wire.specs.declared.message.Message.TheVariants.{DeclareToken, UndeclareToken, Interest}
use Rattle.zs_tables.specs.Types.{RemoteToken}
use Rattle.zs_core.specs.Types.{Settings}
use Rattle.zs_core.specs.Tokens.{remote_tokens}
use Rattle.zs_core.specs.Past.{past_of}
use Rattle.zs_core.specs.Received.{sent, sent_behind, read_as, AreSpelled, AreUtf8}
use Rattle.zs_core.specs.Laws.{WireFormsAreRead}
use Rattle.zs_model.proofs.Tokens.{tokens_ascend}
use Rattle.zs_laws.specs.Origins.{MessagesHaveOrigins}
use Rattle.zs_laws.specs.Spelled.{SpelledTextsAreUtf8, SentKeysAreSpelled}
use Rattle.zs_delivery.specs.Linked.{Side, LinkLine, other, is_event, linked_after}
use Rattle.zs_delivery.specs.Links.{AreOwn, AreSpelledLines, given, Way, Ways}
use Rattle.zs_delivery.specs.Tokens.{declared_token, TellsTokens, BothTellTokens}
use Rattle.zs_delivery.proofs.Order.{ways_after}
use Rattle.zs_delivery.proofs.Known.{AreSound, same_reading, readable_still}
use Rattle.zs_delivery.proofs.Spelling.{BothSpelled, spelled_after}
use Rattle.zs_delivery.proofs.Made.{AreSent, sent_after, delivered_sent, sound_delivered}
use Rattle.zs_delivery.proofs.TokensKept.{IsPlainToken, ArePlainTokens, Keeps, keeps_after}
use Rattle.zs_delivery.proofs.TokensHeard.{HasHeard, heard_after}

-- interests declare no token
same_token : (id : ℕ) (ms : List Message) → declared_token id (filter is_event ms) ≡ declared_token id ms
same_token id [] = refl
same_token id (DeclareToken number wire interest ∷ ms) =
    ap (λ (o : Option (List ℕ)). cond (number == id) (option_map (λ (text : List ℕ). record { number = number; key = undeclared text }) o) (declared_token id (filter is_event ms))) (same_reading ms wire)
    ∙ ap (λ (o : Option RemoteToken). cond (number == id) (option_map (λ (text : List ℕ). record { number = number; key = undeclared text }) (read_as ms wire)) o) (same_token id ms)
same_token id (UndeclareToken number wire interest ∷ ms) = ap (λ (o : Option RemoteToken). cond (number == id) None o) (same_token id ms)
same_token id (m ∷ ms) = same_token id ms

-- what was delivered, without interests
plain_still : (before : List Message) (m : Message) → IsPlainToken before m → IsPlainToken (filter is_event before) m
plain_still before (DeclareToken number wire interest) plain = record {
  asked = plain.asked;
  readable = readable_still before wire plain.readable;
  new = same_token number before ∙ plain.new;
}
plain_still before (UndeclareToken number wire interest) plain = plain
plain_still before m plain = tt

plain_delivered : (messages : List Message) → ArePlainTokens messages → ArePlainTokens (filter is_event messages)
plain_delivered [] all = tt
plain_delivered (Interest id mode what wire ∷ before) all = plain_delivered before all.1
plain_delivered (m ∷ before) all = (plain_still before m all.0, plain_delivered before all.1)

module _ (forms : WireFormsAreRead) (origins : MessagesHaveOrigins) where
  tells_tokens : (s t : Settings) (from to : Side) → Way s from to.history → AreSpelled s → AreUtf8 (past_of s from.history) → TellsTokens s t from to
  tells_tokens s t from to way spelled utf8 idle unshut =
      let order : sent s from.history ≡ way.delivered = way.sent_is ∙ ap (λ (ms : List Message). sent_behind ms way.delivered) idle in
      let sound : AreSound (given to.history) =
      subst AreSound (sym way.given_is) (sound_delivered s from.history way.delivered (delivered_sent s from.history from.waiting way.delivered (subst (AreSent s from.history) way.sent_is (sent_after s from.history forms origins spelled utf8)))) in
      let keeps : Keeps (past_of s from.history) (sent s from.history) = keeps_after s from.history forms origins spelled utf8 in
      let plain : ArePlainTokens (given to.history) = subst ArePlainTokens (sym way.given_is) (plain_delivered way.delivered (subst ArePlainTokens order keeps.plain)) in
      let heard : HasHeard (remote_tokens t (past_of t to.history)) (given to.history) = heard_after t to.history unshut sound plain in
      record {
        ascend = tokens_ascend t (past_of t to.history);
        told = λ id. heard id ∙ ap (declared_token id) way.given_is ∙ same_token id way.delivered ∙ ap (declared_token id) (sym order);
        declared = keeps.now;
      }

  pub both_tell_tokens : SpelledTextsAreUtf8 → SentKeysAreSpelled → (s : Settings) (h : List LinkLine) → AreSpelled s → AreOwn h → AreSpelledLines h
      → BothTellTokens s (linked_after s h).a (linked_after s h).b
  both_tell_tokens texts keys s h aggregates own spelled =
      let w = linked_after s h in
      let ways : Ways s w.a w.b = ways_after s h own in
      let all : BothSpelled w.a w.b = spelled_after keys s aggregates h spelled in
      record {
        forth = tells_tokens s (other s) w.a w.b ways.forth aggregates (texts s w.a.history all.a.history).0;
        back = tells_tokens (other s) s w.b w.a ways.back aggregates (texts (other s) w.b.history all.b.history).0;
      }
