-- What a session's messages declare of tokens is what its accepted events declared and did not end; and each number is declared once.
use Rattle.std.proofs.Common.{◌≡◌, ◌≤◌, inl, inr, ℕ, ◌+◌, List, [], ◌∷◌, Bool, true, false, Option, Some, None, refl, sym, ◌∙◌, ap, subst, cond, arith}
use Rattle.std.specs.Prelude.{◌==◌, option_map, if◌then◌else◌}
use Rattle.std.specs.List.{AllByRecursion}
use Rattle.std.specs.Option.{IfSome}
use Rattle.std.proofs.lemmas.Bool.{eqb-true}
use Rattle.zs_keys.specs.Key.{undeclared}
use Rattle.zs_wire.specs.declared.message.Message.{Message}
use Rattle.zs_wire.specs.declared.message.Message.TheVariants.{DeclareToken, UndeclareToken}
use Rattle.zs_wire.specs.declared.wire_expr.WireExpr.{WireExpr}
use Rattle.zs_events.specs.declared.event.Event.{Event}
use Rattle.zs_events.specs.declared.event.Event.TheVariants.{Token, Undeclare}
use Rattle.zs_events.specs.declared.entity_kind.EntityKind.TheVariants.{Sub as sub_kind, Pub as pub_kind, Queryable as queryable_sort, Querier as querier_sort, Listener as listener_sort, Token as token_sort, Lsub as lsub_sort}
use Rattle.zs_events.specs.declared.key_arg.KeyArg.{KeyArg}
use Rattle.zs_events.specs.declared.turn.Refusal.{Refusal}
use Rattle.zs_events.specs.Turn.{answered}
use Rattle.zs_events.specs.Kinds.{Draws, row_of}
use Rattle.zs_core.specs.Types.{Settings}
use Rattle.zs_core.specs.Entry.{Entry, is_closed}
use Rattle.zs_core.specs.HeldKeys.{named_text}
use Rattle.zs_core.specs.Causes.{refusal_of}
use Rattle.zs_core.specs.Counters.{draws_entity, next_entity}
use Rattle.zs_core.specs.Past.{entry_of, with_entry, past_with, past_of}
use Rattle.zs_core.specs.Effects.{known_of, effects_behind, effects}
use Rattle.zs_core.specs.Received.{messages_of, sent, sent_behind, wire_in, spoken_text, AreReadAs, AreSpelled, AreUtf8}
use Rattle.zs_core.specs.Laws.{WireFormsAreRead}
use Rattle.zs_laws.specs.Origins.{push_in, IsPublished, IsTested, HasOrigin, MessagesHaveOrigins}
use Rattle.zs_laws.proofs.SentMessages.{told_by_event}
use Rattle.zs_delivery.specs.Tokens.{declared_token, token_with, token_now, told_as}
use Rattle.zs_delivery.proofs.Known.{IsReadable}
use Rattle.zs_delivery.proofs.Made.{utf8_before, utf8_or_silent}
use Rattle.zs_delivery.proofs.TokenMessages.{TellsNone, TellNone, of_token, event_none, silent_tokens, messages_are}

-- a declaration of a token for whoever was given these messages before it: it is readable, answers nobody, and its number is new
pub record IsNewToken (before : List Message) (number : ℕ) (wire : WireExpr) (interest : Option ℕ) : Type 0 where
  pub asked : interest ≡ None
  pub readable : IsReadable before wire
  pub new : declared_token number before ≡ None

-- so it is with each that is sent, and an end of one names no key
abbrev pub IsPlainToken : List Message → Message → Type 0
IsPlainToken before (DeclareToken number wire interest) = IsNewToken before number wire interest
IsPlainToken before (UndeclareToken number wire interest) = wire ≡ None
IsPlainToken before message = Unit {0}

abbrev pub ArePlainTokens : List Message → Type 0
ArePlainTokens [] = Unit {0}
ArePlainTokens (message ∷ before) = IsPlainToken before message × ArePlainTokens before

-- what the messages declare is what the accepted events did
pub record Keeps (past : List Entry) (messages : List Message) : Type 0 where
  pub now : (id : ℕ) → declared_token id messages ≡ option_map (told_as id) (token_now id past)
  pub plain : ArePlainTokens messages

one_plain : (before : List Message) (m : Message) → TellsNone m → IsPlainToken before m
one_plain before (DeclareToken number wire interest) none = cc
one_plain before (UndeclareToken number wire interest) none = cc
one_plain before m none = tt

plain_silent : (ms before : List Message) → TellNone ms → ArePlainTokens before → ArePlainTokens (sent_behind ms before)
plain_silent [] before none plain = plain
plain_silent (m ∷ ms) before none plain = plain_silent ms (m ∷ before) none.1 (one_plain before m none.0, plain)

-- an event that neither declares a token nor ends one
other : (s : Settings) (past : List Entry) (e : Event) (before : List Message) → of_token e ≡ false
    → ((id : ℕ) (x : Option (List ℕ)) → token_with id e (entry_of s past e).number (named_text past e) x ≡ x) → Keeps past before
    → Keeps (entry_of s past e ∷ past) (sent_behind (told_by_event (known_of s past) (entry_of s past e).number (named_text past e) e) before)
other s past e before none same keeps =
    let ms = told_by_event (known_of s past) (entry_of s past e).number (named_text past e) e in
    let silent : TellNone ms = event_none (known_of s past) (entry_of s past e).number (named_text past e) e none in
    record {
      now = λ id. silent_tokens id ms before silent ∙ keeps.now id ∙ ap (option_map (told_as id)) (sym (same id (token_now id past)));
      plain = plain_silent ms before silent keeps.plain;
    }

-- the declaration of one
declares : (s : Settings) (past : List Entry) (key : KeyArg) (number : ℕ) (before : List Message) → Keeps past before → token_now number past ≡ None
    → (text : Option (List ℕ)) → AreReadAs s text before (told_by_event (known_of s past) (Some number) text (Token key))
    → AllByRecursion (λ m. IfSome (push_in m) (IsPublished s past (Token key)) × IfSome (wire_in m) (λ wire. IsTested text)) (told_by_event (known_of s past) (Some number) text (Token key))
    → Keeps (record { number = Some number; text = text; event = Token key } ∷ past) (sent_behind (told_by_event (known_of s past) (Some number) text (Token key)) before)
declares s past key number before keeps unborn None reads origins = record { now = keeps.now; plain = keeps.plain }
declares s past key number before keeps unborn (Some text) reads origins = record {
  now = λ id.
      ap (λ (o : Option (List ℕ)). cond (number == id) (option_map (λ (t : List ℕ). record { number = number; key = undeclared t }) o) (declared_token id before)) reads.0
      ∙ same id (number == id) refl;
  plain = (
    record {
      asked = refl;
      readable = record { text = text; reads = reads.0; canonical = origins.0.1 };
      new = keeps.now number ∙ ap (option_map (told_as number)) unborn;
    },
    keeps.plain,
  );
}
  where
    same : (id : ℕ) (b : Bool) → (number == id) ≡ b
        → cond b (Some (told_as number text)) (declared_token id before) ≡ option_map (told_as id) (cond b (Some text) (token_now id past))
    same id true is = ap (λ (k : ℕ). Some (told_as k text)) (eqb-true number id is)
    same id false is = keeps.now id

-- the end of one
ended : (past : List Entry) (number id : ℕ) (before : List Message) → Keeps past before
    → cond (number == id) None (declared_token id before) ≡ option_map (told_as id) (cond (number == id) None (token_now id past))
ended past number id before keeps = go (number == id)
  where
    go : (b : Bool) → cond b None (declared_token id before) ≡ option_map (told_as id) (cond b None (token_now id past))
    go true = refl
    go false = keeps.now id

by_event : (s : Settings) (past : List Entry) (e : Event) (before : List Message) → Keeps past before → token_now (next_entity s past) past ≡ None
    → AreReadAs s (spoken_text past e) before (told_by_event (known_of s past) (entry_of s past e).number (named_text past e) e)
    → AllByRecursion (HasOrigin s past e) (told_by_event (known_of s past) (entry_of s past e).number (named_text past e) e)
    → Keeps (entry_of s past e ∷ past) (sent_behind (told_by_event (known_of s past) (entry_of s past e).number (named_text past e) e) before)
by_event s past (Token key) before keeps unborn reads origins = declares s past key (next_entity s past) before keeps unborn (named_text past (Token key)) reads origins
by_event s past (Undeclare token_sort number) before keeps unborn reads origins = record { now = λ id. ended past number id before keeps; plain = (refl, keeps.plain) }
by_event s past e before keeps unborn reads origins = other s past e before refl (λ id x. refl) keeps

-- no token has a number that was not drawn yet
below : (d : Draws) (k n : ℕ) → (if draws_entity d then k + 1 else k) ≤ n → k ≤ n
below d k n le = go (draws_entity d) le
  where
    go : (b : Bool) → (if b then k + 1 else k) ≤ n → k ≤ n
    go true le = omega arith
    go false le = le

undrawn : (s : Settings) (past : List Entry) (e : Event) (n : ℕ) → next_entity s (entry_of s past e ∷ past) ≤ n → (next_entity s past ≤ n → token_now n past ≡ None)
    → token_now n (entry_of s past e ∷ past) ≡ None
undrawn s past (Token key) n le rest = go (named_text past (Token key))
  where
    other_number : (b : Bool) → (next_entity s past == n) ≡ b → (text : List ℕ) → cond b (Some text) (token_now n past) ≡ None
    other_number true is text = let same : next_entity s past ≡ n = eqb-true (next_entity s past) n is in absurd (omega (arith, le, same))
    other_number false is text = rest (omega (arith, le))

    go : (text : Option (List ℕ)) → token_with n (Token key) (Some (next_entity s past)) text (token_now n past) ≡ None
    go None = rest (omega (arith, le))
    go (Some text) = other_number (next_entity s past == n) refl text
undrawn s past (Undeclare token_sort number) n le rest = go (number == n)
  where
    go : (b : Bool) → cond b None (token_now n past) ≡ None
    go true = refl
    go false = rest le
undrawn s past (Undeclare sub_kind number) n le rest = rest le
undrawn s past (Undeclare pub_kind number) n le rest = rest le
undrawn s past (Undeclare queryable_sort number) n le rest = rest le
undrawn s past (Undeclare querier_sort number) n le rest = rest le
undrawn s past (Undeclare listener_sort number) n le rest = rest le
undrawn s past (Undeclare lsub_sort number) n le rest = rest le
undrawn s past e n le rest = rest (below (row_of e).draws (next_entity s past) n le)

pub unborn : (s : Settings) (h : List Event) (n : ℕ) → next_entity s (past_of s h) ≤ n → token_now n (past_of s h) ≡ None
unborn s [] n le = refl
unborn s (e ∷ h) n le = go (refusal_of s (past_of s h) e) (is_closed (past_of s h)) le (λ within. unborn s h n within)
  where
    go : (o : Option Refusal) (c : Bool) → next_entity s (with_entry o c (entry_of s (past_of s h) e) (past_of s h)) ≤ n → (next_entity s (past_of s h) ≤ n → token_now n (past_of s h) ≡ None)
        → token_now n (with_entry o c (entry_of s (past_of s h) e) (past_of s h)) ≡ None
    go (Some refusal) c le rest = rest le
    go None true le rest = rest le
    go None false le rest = undrawn s (past_of s h) e n le rest

-- an event, accepted or not
step : (s : Settings) (past : List Entry) (e : Event) (before : List Message) → Keeps past before → token_now (next_entity s past) past ≡ None
    → AreReadAs s (spoken_text past e) before (messages_of (if is_closed past then answered (refusal_of s past e) None [] else answered (refusal_of s past e) (entry_of s past e).number (effects_behind s past e)).effects)
    → AllByRecursion (HasOrigin s past e) (messages_of (if is_closed past then answered (refusal_of s past e) None [] else answered (refusal_of s past e) (entry_of s past e).number (effects_behind s past e)).effects)
    → Keeps (past_with s e past) (sent_behind (messages_of (if is_closed past then answered (refusal_of s past e) None [] else answered (refusal_of s past e) (entry_of s past e).number (effects_behind s past e)).effects) before)
step s past e before keeps unborn = go (is_closed past) (refusal_of s past e)
  where
    go : (c : Bool) (o : Option Refusal)
        → AreReadAs s (spoken_text past e) before (messages_of (if c then answered o None [] else answered o (entry_of s past e).number (effects_behind s past e)).effects)
        → AllByRecursion (HasOrigin s past e) (messages_of (if c then answered o None [] else answered o (entry_of s past e).number (effects_behind s past e)).effects)
        → Keeps (with_entry o c (entry_of s past e) past) (sent_behind (messages_of (if c then answered o None [] else answered o (entry_of s past e).number (effects_behind s past e)).effects) before)
    go true (Some refusal) reads origins = keeps
    go true None reads origins = keeps
    go false (Some refusal) reads origins = keeps
    go false None reads origins =
        subst (λ (ms : List Message). AreReadAs s (spoken_text past e) before ms → AllByRecursion (HasOrigin s past e) ms → Keeps (entry_of s past e ∷ past) (sent_behind ms before))
        (sym (messages_are s past e)) (by_event s past e before keeps unborn) reads origins

pub keeps_after : (s : Settings) (h : List Event) → WireFormsAreRead → MessagesHaveOrigins → AreSpelled s → AreUtf8 (past_of s h) → Keeps (past_of s h) (sent s h)
keeps_after s [] forms origins spelled utf8 = record { now = λ id. refl; plain = tt }
keeps_after s (e ∷ h) forms origins spelled utf8 =
    let past = past_of s h in
    let before : AreUtf8 past = utf8_before s past e (refusal_of s past e) (is_closed past) utf8 in
    let ms = messages_of (effects s h e).effects in
    let reads : AreReadAs s (spoken_text past e) (sent s h) ms =
    elim (utf8_or_silent s past e (refusal_of s past e) (is_closed past) (entry_of s past e).number (effects_behind s past e) utf8) as (λ x. AreReadAs s (spoken_text past e) (sent s h) ms)
    [ inl own ↦ forms s h e spelled before own | inr none ↦ subst (AreReadAs s (spoken_text past e) (sent s h)) (sym none) tt ] in
    step s past e (sent s h) (keeps_after s h forms origins spelled before) (unborn s h (next_entity s past) (omega arith)) reads (origins s h e)
