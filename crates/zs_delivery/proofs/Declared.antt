-- Each subscriber and queryable that a session declared to the network is readable for a receiver of what was sent before it.
use Rattle.std.proofs.Common.{◌≡◌, inl, inr, ℕ, List, [], ◌∷◌, Bool, true, false, Option, Some, None, sym, subst}
use Rattle.std.specs.Prelude.{filter, option_map, unwrap_or, cond, find}
use Rattle.std.specs.Option.{IfSome}
use Rattle.std.specs.List.{AllByRecursion}
use Rattle.zs_keys.specs.Key.{Key}
use Rattle.zs_keys.specs.Text.{is_canonical}
use Rattle.zs_keys.specs.Matching.{includes}
use Rattle.zs_wire.specs.declared.message.Message.{Message}
use Rattle.zs_wire.specs.declared.message.Message.TheVariants.{DeclareSubscriber, DeclareQueryable, Interest}
use Rattle.zs_events.specs.declared.event.Event.{Event}
use Rattle.zs_core.specs.Types.{Settings}
use Rattle.zs_core.specs.Entry.{is_closed}
use Rattle.zs_core.specs.Groups.{share_text}
use Rattle.zs_core.specs.Causes.{refusal_of}
use Rattle.zs_core.specs.Past.{entry_of, past_of}
use Rattle.zs_core.specs.Effects.{effects_behind, effects}
use Rattle.zs_core.specs.Received.{messages_of, sent, sent_behind, read_as, wire_in, meant_by, spoken_text, AreReadAs, AreSpelled, AreUtf8}
use Rattle.zs_core.specs.Laws.{WireFormsAreRead}
use Rattle.zs_laws.specs.Origins.{IsTested, HasOrigin, MessagesHaveOrigins}
use Rattle.zs_delivery.specs.Linked.{is_event}
use Rattle.zs_delivery.specs.Told.{AreCanonical}
use Rattle.zs_delivery.proofs.Known.{readable_still}
use Rattle.zs_delivery.proofs.Made.{readable_by, utf8_before, utf8_or_silent}
use Rattle.zs_delivery.proofs.Telling.{IsDeclared, AreDeclared}

-- a text that shares a declaration is a key's or an aggregate's
pub shared_canonical : (aggregates : List Key) (text : List ℕ) → AllByRecursion (λ a. is_canonical a.text ≡ true) aggregates → is_canonical text ≡ true
    → is_canonical (share_text aggregates text) ≡ true
shared_canonical [] text all own = own
shared_canonical (a ∷ aggregates) text all own = go (shared_canonical aggregates text all.1 own) (includes a.text text)
  where
    go : is_canonical (share_text aggregates text) ≡ true → (b : Bool)
        → is_canonical (unwrap_or (option_map (λ (k : Key). k.text) (cond b (Some a) (find (λ k. includes k.text text) aggregates))) text) ≡ true
    go rest true = all.0
    go rest false = rest

pub shared_tested : (s : Settings) → AreCanonical s → (text : Option (List ℕ)) → IsTested text → IsTested (option_map (share_text s.aggregated_subscribers) text)
shared_tested s all None tested = tested
shared_tested s all (Some text) tested = shared_canonical s.aggregated_subscribers text all tested

pub one_declared : (s : Settings) (h : List Event) (e : Event) (before : List Message) (m : Message) → AreCanonical s → HasOrigin s (past_of s h) e m
    → IfSome (wire_in m) (λ wire. read_as before wire ≡ meant_by s (spoken_text (past_of s h) e) m) → IsDeclared before m
one_declared s h e before (DeclareSubscriber id wire) all origin reads =
    readable_by before wire (option_map (share_text s.aggregated_subscribers) (spoken_text (past_of s h) e)) reads (shared_tested s all (spoken_text (past_of s h) e) origin.1)
one_declared s h e before (DeclareQueryable id complete wire) all origin reads = readable_by before wire (spoken_text (past_of s h) e) reads origin.1
one_declared s h e before m all origin reads = tt

pub all_declared : (s : Settings) (h : List Event) (e : Event) (before ms : List Message) → AreCanonical s → AllByRecursion (HasOrigin s (past_of s h) e) ms
    → AreReadAs s (spoken_text (past_of s h) e) before ms → AreDeclared before → AreDeclared (sent_behind ms before)
all_declared s h e before [] all origins reads declared = declared
all_declared s h e before (m ∷ ms) all origins reads declared =
    all_declared s h e (m ∷ before) ms all origins.1 reads.1 (one_declared s h e before m all origins.0 reads.0, declared)

pub declared_after : (s : Settings) (h : List Event) → WireFormsAreRead → MessagesHaveOrigins → AreSpelled s → AreCanonical s → AreUtf8 (past_of s h) → AreDeclared (sent s h)
declared_after s [] forms origins spelled all utf8 = tt
declared_after s (e ∷ h) forms origins spelled all utf8 =
    let past = past_of s h in
    let before : AreUtf8 past = utf8_before s past e (refusal_of s past e) (is_closed past) utf8 in
    let ms = messages_of (effects s h e).effects in
    let reads : AreReadAs s (spoken_text past e) (sent s h) ms =
    elim (utf8_or_silent s past e (refusal_of s past e) (is_closed past) (entry_of s past e).number (effects_behind s past e) utf8) as (λ x. AreReadAs s (spoken_text past e) (sent s h) ms)
    [ inl own ↦ forms s h e spelled before own | inr none ↦ subst (AreReadAs s (spoken_text past e) (sent s h)) (sym none) tt ] in
    all_declared s h e (sent s h) ms all (origins s h e) reads (declared_after s h forms origins spelled all before)

-- what was delivered, without interests
pub declared_still : (before : List Message) (m : Message) → IsDeclared before m → IsDeclared (filter is_event before) m
declared_still before (DeclareSubscriber id wire) readable = readable_still before wire readable
declared_still before (DeclareQueryable id complete wire) readable = readable_still before wire readable
declared_still before m readable = tt

pub declared_delivered : (messages : List Message) → AreDeclared messages → AreDeclared (filter is_event messages)
declared_delivered [] all = tt
declared_delivered (Interest id mode what wire ∷ before) all = declared_delivered before all.1
declared_delivered (m ∷ before) all = (declared_still before m all.0, declared_delivered before all.1)
