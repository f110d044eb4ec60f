-- Each number and each push that a session sent is readable for a receiver of what was sent before it, and each push is an accepted
-- publication's.
use Rattle.std.proofs.Common.{◌≡◌, ◌⊎◌, inl, inr, ℕ, List, [], ◌∷◌, Bool, true, false, Option, Some, None, refl, sym, ◌∙◌, subst}
use Rattle.std.specs.Prelude.{IsUtf8, filter, if◌then◌else◌}
use Rattle.std.specs.Option.{IfSome}
use Rattle.std.specs.List.{AllByRecursion}
use Rattle.zs_keys.specs.Text.{is_canonical}
use Rattle.zs_wire.specs.declared.message.Message.{Message}
use Rattle.zs_wire.specs.declared.message.Message.TheVariants.{DeclareKeyExpr, Interest, Push as push_message}
use Rattle.zs_wire.specs.declared.push.Push.{Push}
use Rattle.zs_wire.specs.declared.wire_expr.WireExpr.{WireExpr}
use Rattle.zs_events.specs.declared.event.Event.{Event}
use Rattle.zs_events.specs.declared.event.Event.TheVariants.{ReplyErr, Net}
use Rattle.zs_events.specs.declared.turn.Effect.{Effect}
use Rattle.zs_events.specs.declared.turn.Refusal.{Refusal}
use Rattle.zs_events.specs.Turn.{answered}
use Rattle.zs_events.specs.Kinds.{incoming_content}
use Rattle.zs_core.specs.Types.{PubRow}
use Rattle.zs_core.specs.Types.{Settings}
use Rattle.zs_core.specs.Entry.{Entry, is_closed}
use Rattle.zs_core.specs.HeldKeys.{named_text}
use Rattle.zs_core.specs.Live.{live_pubs}
use Rattle.zs_core.specs.Causes.{refusal_of}
use Rattle.zs_core.specs.Past.{entry_of, with_entry, past_of}
use Rattle.zs_core.specs.Publications.{Publication, sample_on}
use Rattle.zs_core.specs.Effects.{publication_of, effects_behind, effects}
use Rattle.zs_core.specs.Received.{messages_of, sent, sent_behind, read_as, wire_in, meant_by, spoken_text, AreReadAs, AreSpelled, AreUtf8}
use Rattle.zs_core.specs.Laws.{WireFormsAreRead}
use Rattle.zs_laws.specs.Origins.{IsTested, HasOrigin, MessagesHaveOrigins}
use Rattle.zs_delivery.specs.Linked.{is_event}
use Rattle.zs_delivery.specs.Delivery.{WasMade}
use Rattle.zs_delivery.proofs.Known.{IsReadable, IsSound, AreSound, readable_still}

-- a push that was sent behind a history: a publication's, as a receiver of what was sent before it makes its sample
pub record IsPushed (s : Settings) (h : List Event) (before : List Message) (push : Push) : Type 0 where
  pub publication : Publication
  pub made : WasMade s h publication
  pub readable : IsReadable before push.wire
  pub sample : publication.sample ≡ sample_on readable.text (incoming_content push)

abbrev pub IsSent : Settings → List Event → List Message → Message → Type 0
IsSent s h before (DeclareKeyExpr number wire) = IsReadable before wire
IsSent s h before (push_message push) = IsPushed s h before push
IsSent s h before message = Unit {0}

abbrev pub AreSent : Settings → List Event → List Message → Type 0
AreSent s h [] = Unit {0}
AreSent s h (message ∷ before) = IsSent s h before message × AreSent s h before

-- what was sent stays so behind one more event
pub still_sent : (s : Settings) (h : List Event) (e : Event) (before : List Message) (m : Message) → IsSent s h before m → IsSent s (e ∷ h) before m
still_sent s h e before (DeclareKeyExpr number wire) sent_so = sent_so
still_sent s h e before (push_message push) sent_so = record { publication = sent_so.publication; made = inr sent_so.made; readable = sent_so.readable; sample = sent_so.sample }
still_sent s h e before m sent_so = tt

pub all_still_sent : (s : Settings) (h : List Event) (e : Event) (messages : List Message) → AreSent s h messages → AreSent s (e ∷ h) messages
all_still_sent s h e [] all = tt
all_still_sent s h e (m ∷ before) all = (still_sent s h e before m all.0, all_still_sent s h e before all.1)

-- the push of a publication names the event's own key
pub no_publication : (pubs : List PubRow) (text : Option (List ℕ)) (past : List Entry) (m : Message) (p : Publication) → publication_of pubs text (Net m) ≡ Some p
    → spoken_text past (Net m) ≡ named_text past (Net m)
no_publication pubs text past m p is = by m
  where
    by : (x : Message) → spoken_text past (Net x) ≡ named_text past (Net x)
    by (push_message push) = refl
    by x = refl

pub names_own_key : (past : List Entry) (pubs : List PubRow) (text : Option (List ℕ)) (e : Event) (p : Publication) → publication_of pubs text e ≡ Some p
    → spoken_text past e ≡ named_text past e
names_own_key past pubs text (ReplyErr value error) p is = cc
names_own_key past pubs text (Net m) p is = no_publication pubs text past m p is
names_own_key past pubs text e p is = refl

-- a text that was tested is readable, where a wire expression is read as it
pub readable_by : (before : List Message) (wire : WireExpr) (text : Option (List ℕ)) → read_as before wire ≡ text → IsTested text → IsReadable before wire
readable_by before wire None reads tested = absurd tested
readable_by before wire (Some text) reads tested = record { text = text; reads = reads; canonical = tested }

-- the same, where the text is known
pub canonical_text : (text : Option (List ℕ)) (own : List ℕ) → text ≡ Some own → IsTested text → is_canonical own ≡ true
canonical_text None own is tested = absurd tested
canonical_text (Some text) own is tested =
    let same : text ≡ own = cc in
    subst (λ (t : List ℕ). is_canonical t ≡ true) same tested

pub one_sent : (s : Settings) (h : List Event) (e : Event) (before : List Message) (m : Message) → HasOrigin s (past_of s h) e m
    → IfSome (wire_in m) (λ wire. read_as before wire ≡ meant_by s (spoken_text (past_of s h) e) m) → IsSent s (e ∷ h) before m
one_sent s h e before (DeclareKeyExpr number wire) origin reads = readable_by before wire (spoken_text (past_of s h) e) reads origin.1
one_sent s h e before (push_message push) origin reads =
    let made = origin.0 in
    let own : spoken_text (past_of s h) e ≡ Some made.text = names_own_key (past_of s h) (live_pubs (past_of s h)) (named_text (past_of s h) e) e made.publication made.made.published ∙ made.named in
    record {
      publication = made.publication;
      made = inl made.made;
      readable = record { text = made.text; reads = reads ∙ own; canonical = canonical_text (spoken_text (past_of s h) e) made.text own origin.1 };
      sample = made.sample;
    }
one_sent s h e before m origin reads = tt

pub all_sent : (s : Settings) (h : List Event) (e : Event) (before ms : List Message) → AllByRecursion (HasOrigin s (past_of s h) e) ms
    → AreReadAs s (spoken_text (past_of s h) e) before ms → AreSent s (e ∷ h) before → AreSent s (e ∷ h) (sent_behind ms before)
all_sent s h e before [] origins reads all = all
all_sent s h e before (m ∷ ms) origins reads all = all_sent s h e (m ∷ before) ms origins.1 reads.1 (one_sent s h e before m origins.0 reads.0, all)

-- the texts of keys are UTF-8 before an event where they are so behind it, and then so is that of the event's key, or it sends nothing
pub utf8_before : (s : Settings) (past : List Entry) (e : Event) (o : Option Refusal) (c : Bool) → AreUtf8 (with_entry o c (entry_of s past e) past) → AreUtf8 past
utf8_before s past e (Some refusal) c all = all
utf8_before s past e None true all = all
utf8_before s past e None false all = all.1

pub utf8_or_silent : (s : Settings) (past : List Entry) (e : Event) (o : Option Refusal) (c : Bool) (number : Option ℕ) (fx : List Effect) → AreUtf8 (with_entry o c (entry_of s past e) past)
    → IfSome (named_text past e) IsUtf8 ⊎ (messages_of (if c then answered o None [] else answered o number fx).effects ≡ [])
utf8_or_silent s past e (Some refusal) true number fx all = inr refl
utf8_or_silent s past e (Some refusal) false number fx all = inr refl
utf8_or_silent s past e None true number fx all = inr refl
utf8_or_silent s past e None false number fx all = inl all.0

pub sent_after : (s : Settings) (h : List Event) → WireFormsAreRead → MessagesHaveOrigins → AreSpelled s → AreUtf8 (past_of s h) → AreSent s h (sent s h)
sent_after s [] forms origins spelled utf8 = tt
sent_after s (e ∷ h) forms origins spelled utf8 =
    let past = past_of s h in
    let before : AreUtf8 past = utf8_before s past e (refusal_of s past e) (is_closed past) utf8 in
    let ms = messages_of (effects s h e).effects in
    let reads : AreReadAs s (spoken_text past e) (sent s h) ms =
    elim (utf8_or_silent s past e (refusal_of s past e) (is_closed past) (entry_of s past e).number (effects_behind s past e) utf8) as (λ x. AreReadAs s (spoken_text past e) (sent s h) ms)
    [ inl own ↦ forms s h e spelled before own | inr none ↦ subst (AreReadAs s (spoken_text past e) (sent s h)) (sym none) tt ] in
    all_sent s h e (sent s h) ms (origins s h e) reads (all_still_sent s h e (sent s h) (sent_after s h forms origins spelled before))

-- behind what waits stands what was delivered
pub delivered_sent : (s : Settings) (h : List Event) (ms before : List Message) → AreSent s h (sent_behind ms before) → AreSent s h before
delivered_sent s h [] before all = all
delivered_sent s h (m ∷ ms) before all = (delivered_sent s h ms (m ∷ before) all).1

-- what was delivered is sound, without interests
pub sound_one : (s : Settings) (h : List Event) (before : List Message) (m : Message) → IsSent s h before m → IsSound (filter is_event before) m
sound_one s h before (DeclareKeyExpr number wire) sent_so = readable_still before wire sent_so
sound_one s h before (push_message push) sent_so = readable_still before push.wire sent_so.readable
sound_one s h before m sent_so = tt

pub sound_delivered : (s : Settings) (h : List Event) (messages : List Message) → AreSent s h messages → AreSound (filter is_event messages)
sound_delivered s h [] all = tt
sound_delivered s h (Interest id mode what wire ∷ before) all = sound_delivered s h before all.1
sound_delivered s h (m ∷ before) all = (sound_one s h before m all.0, sound_delivered s h before all.1)
