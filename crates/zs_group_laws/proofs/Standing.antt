-- What stands of the sides of a group behind every schedule.
use Rattle.std.proofs.Common.{◌≡◌, ℕ, Bool, true, false, List, [], ◌∷◌, ◌++◌, Option, Some, None, refl, sym, ◌∙◌, ap, subst}
use Rattle.std.specs.Prelude.{codes, option_map, if◌then◌else◌}
use Rattle.std.specs.List.{AllByRecursion}
use Rattle.std.specs.Str.{chars}
use Rattle.zs_wire.specs.declared.message.Message.{Message}
use Rattle.zs_wire.specs.declared.message.Message.TheVariants.{DeclareToken, UndeclareToken, Interest}
use Rattle.zs_wire.specs.declared.wire_expr.WireExpr.{WireExpr}
use Rattle.zs_events.specs.declared.entity_kind.EntityKind.TheVariants.{Token as token_kind}
use Rattle.zs_events.specs.declared.event.Event.{Event}
use Rattle.zs_events.specs.declared.event.Event.TheVariants.{Token, Undeclare, Lsub, Net}
use Rattle.zs_events.specs.declared.key_arg.KeyArg.{KeyArg}
use Rattle.zs_events.specs.declared.key_arg.KeyArg.TheVariants.{Text}
use Rattle.zs_events.specs.declared.turn.Kind.TheVariants.{LivelinessSubscriber}
use Rattle.zs_events.specs.declared.turn.Refusal.{Refusal}
use Rattle.zs_events.specs.declared.turn.Turn.{Turn}
use Rattle.zs_events.specs.Turn.{answered}
use Rattle.zs_model.specs.declared.settings.Settings.{Settings}
use Rattle.zs_model.specs.Entry.{Entry, is_closed}
use Rattle.zs_model.specs.HeldKeys.{named_text}
use Rattle.zs_model.specs.Live.{drew_as, ends_as, live_lsubs}
use Rattle.zs_model.proofs.Entities.{message_none}
use Rattle.zs_model.specs.Causes.{refusal_of}
use Rattle.zs_model.specs.Counters.{next_entity}
use Rattle.zs_model.specs.Past.{entry_of, with_entry, past_of}
use Rattle.zs_model.specs.Effects.{Known, known_of, effects_behind}
use Rattle.zs_model.specs.Received.{messages_of}
use Rattle.zs_model.specs.Tokens.{remote_tokens, asking_now}
use Rattle.zs_model.proofs.Tokens.{tokens_ascend}
use Rattle.zs_laws.proofs.SentMessages.{told_by_event}
use Rattle.zs_delivery.specs.declared.side.LinkSide.TheVariants.{A, B}
use Rattle.zs_delivery.specs.Linked.{Side, LinkLine, Take, Deliver, other, sent_at, with_event, with_oldest, without_oldest, linked_after}
use Rattle.zs_delivery.specs.Tokens.{token_now, told_as}
use Rattle.zs_delivery.proofs.TokenMessages.{messages_are}
use Rattle.zs_members.specs.Members.{Member}
use Rattle.zs_members.proofs.Counting.{ascend_nothing}
use Rattle.zs_group_lines.specs.declared.membership.Membership.{Membership}
use Rattle.zs_group_lines.specs.Tokens.{heard}
use Rattle.zs_group_lines.specs.Membership.{hearer, nobody, noted}
use Rattle.zs_group_laws.specs.Groups.{hearing, hearer_row, Starts, turn_behind, kept, IsMemberEvent, AreMemberLines, first_events, first_links}
use Rattle.zs_group_laws.proofs.Staying.{Stays, subs_stay, open_stays}
use Rattle.zs_group_laws.proofs.Following.{Agrees, agrees_told, agrees_ended}
use Rattle.zs_group_laws.proofs.Effects.{token_behind, end_behind, told_behind_hands, ended_behind_hands, hearing_behind}
use Rattle.zs_group_laws.proofs.Holding.{Holds, holds_more, holds_less}
use Rattle.zs_events.specs.Kinds.{ToEntities}

-- what is known of a side: it is open, it has the one liveliness subscriber, its view counts what it was told, and it holds what it declared
pub record Stands (s : Settings) (past : List Entry) (m : Membership) : Type 0 where
  pub unshut : is_closed past ≡ false
  pub subs : live_lsubs past ≡ hearer_row ∷ []
  pub agrees : Agrees m.heard (remote_tokens s past)
  pub holds : Holds (next_entity s past) (λ n. token_now n past) m.tokens

-- the turn of an event behind accepted events
abbrev turn_on : Settings → List Entry → Event → Bool → Option Refusal → Turn
turn_on s past e closed refusal = if closed then answered refusal None [] else answered refusal (entry_of s past e).number (effects_behind s past e)

turn_is : (s : Settings) (h : List Event) (e : Event) → turn_behind s h e ≡ turn_on s (past_of s h) e (is_closed (past_of s h)) (refusal_of s (past_of s h) e)
unfolding turn_behind
turn_is s h e = refl

-- a view counts what was told, and the tokens are those that were declared
abbrev Both : Settings → List Entry → Membership → Type 0
Both s past m = Agrees m.heard (remote_tokens s past) × Holds (next_entity s past) (λ n. token_now n past) m.tokens

-- a step of an open side, where an accepted event makes so much of it
step : (s : Settings) (h : List Event) (e : Event) (m : Membership) → Stays e → Stands s (past_of s h) m
    → Agrees (heard hearer (effects_behind s (past_of s h) e) m.heard) (remote_tokens s (entry_of s (past_of s h) e ∷ past_of s h))
    → Holds (next_entity s (entry_of s (past_of s h) e ∷ past_of s h)) (λ n. token_now n (entry_of s (past_of s h) e ∷ past_of s h))
    (noted e (answered None (entry_of s (past_of s h) e).number (effects_behind s (past_of s h) e)) m).tokens
    → ((refusal : Refusal) → (noted e (answered (Some refusal) None []) m).tokens ≡ m.tokens)
    → Stands s (past_of s (e ∷ h)) (noted e (turn_behind s h e) m)
step s h e m stays stands agrees holds refused = record {
  unshut = open_stays s past e stays stands.unshut;
  subs = subs_stay s past e stays ∙ stands.subs;
  agrees = both.0;
  holds = both.1;
}
  where
    past : List Entry
    past = past_of s h

    go : (o : Option Refusal) → Both s (with_entry o false (entry_of s past e) past) (noted e (turn_on s past e false o) m)
    go None = (agrees, holds)
    go (Some refusal) = (stands.agrees, subst (Holds (next_entity s past) (λ (n : ℕ). token_now n past)) (sym (refused refusal)) stands.holds)

    both : Both s (past_of s (e ∷ h)) (noted e (turn_behind s h e) m)
    both =
        subst (λ (turn : Turn). Both s (past_of s (e ∷ h)) (noted e turn m)) (sym (turn_is s h e))
        (subst (λ (c : Bool). Both s (with_entry (refusal_of s past e) c (entry_of s past e) past) (noted e (turn_on s past e c (refusal_of s past e)) m)) (sym stands.unshut)
        (go (refusal_of s past e)))

-- tokens and their ends, by the own side and by the other
token_stays : (key : KeyArg) → Stays (Token key)
token_stays key = record { open_still = refl; declares_none = λ n text. refl; draws_none = λ id n. refl; ends_none = λ id. refl }

end_stays : (n : ℕ) → Stays (Undeclare token_kind n)
end_stays n = record { open_still = refl; declares_none = λ number text. refl; draws_none = λ id number. refl; ends_none = λ id. refl }

message_stays : (m : Message) → Stays (Net m)
message_stays m = record {
  open_still = refl;
  declares_none = λ n text. refl;
  draws_none = λ id n. ap (λ (to : ToEntities). drew_as LivelinessSubscriber id to n) (message_none m);
  ends_none = λ id. ap (ends_as LivelinessSubscriber id) (message_none m);
}

step_token : (s : Settings) (h : List Event) (text : List ℕ) (m : Membership) → Stands s (past_of s h) m → Stands s (past_of s (Token (Text text) ∷ h)) (noted (Token (Text text)) (turn_behind s h (Token (Text text))) m)
step_token s h text m stands =
    let past = past_of s h in
    step s h (Token (Text text)) m (token_stays (Text text)) stands
    (subst (λ (view : List Member). Agrees view (remote_tokens s past)) (sym (token_behind s past (Text text) hearer m.heard)) stands.agrees)
    (holds_more (next_entity s past) (λ n. token_now n past) (λ n. token_now n (entry_of s past (Token (Text text)) ∷ past)) m.tokens text stands.holds (λ k. refl))
    (λ refusal. refl)

step_end : (s : Settings) (h : List Event) (n : ℕ) (m : Membership) → Stands s (past_of s h) m → Stands s (past_of s (Undeclare token_kind n ∷ h)) (noted (Undeclare token_kind n) (turn_behind s h (Undeclare token_kind n)) m)
step_end s h n m stands =
    let past = past_of s h in
    step s h (Undeclare token_kind n) m (end_stays n) stands
    (subst (λ (view : List Member). Agrees view (remote_tokens s past)) (sym (end_behind s past n hearer m.heard)) stands.agrees)
    (holds_less n (next_entity s past) (λ k. token_now k past) (λ k. token_now k (entry_of s past (Undeclare token_kind n) ∷ past)) m.tokens stands.holds (λ k. refl))
    (λ refusal. refl)

-- a message of a group: a token, or the end of one, which names no key; and an interest, which is dropped
abbrev pub IsTokenMessage : Message → Type 0
IsTokenMessage (DeclareToken number wire interest) = interest ≡ None
IsTokenMessage (UndeclareToken number wire interest) = wire ≡ None
IsTokenMessage (Interest id mode what wire) = Unit {0}
IsTokenMessage message = ⊥

abbrev pub AreTokenMessages : List Message → Type 0
AreTokenMessages messages = AllByRecursion IsTokenMessage messages

step_told : (s : Settings) (h : List Event) (number : ℕ) (wire : WireExpr) (m : Membership) → Stands s (past_of s h) m
    → Stands s (past_of s (Net (DeclareToken number wire None) ∷ h)) (noted (Net (DeclareToken number wire None)) (turn_behind s h (Net (DeclareToken number wire None))) m)
step_told s h number wire m stands =
    let past = past_of s h in
    let e = Net (DeclareToken number wire None) in
    step s h e m (message_stays (DeclareToken number wire None)) stands
    (subst (λ (view : List Member). Agrees view (remote_tokens s (entry_of s past e ∷ past))) (sym (told_behind_hands s past number wire hearer m.heard))
    (agrees_told (known_of s past).watch (asking_now s past) number (named_text past e) m.heard stands.subs stands.agrees))
    stands.holds
    (λ refusal. refl)

step_ended : (s : Settings) (h : List Event) (number : ℕ) (interest : Option ℕ) (m : Membership) → Stands s (past_of s h) m
    → Stands s (past_of s (Net (UndeclareToken number None interest) ∷ h)) (noted (Net (UndeclareToken number None interest)) (turn_behind s h (Net (UndeclareToken number None interest))) m)
step_ended s h number interest m stands =
    let past = past_of s h in
    let e = Net (UndeclareToken number None interest) in
    step s h e m (message_stays (UndeclareToken number None interest)) stands
    (subst (λ (view : List Member). Agrees view (remote_tokens s (entry_of s past e ∷ past))) (sym (ended_behind_hands s past number interest hearer m.heard))
    (agrees_ended (known_of s past).watch number interest m.heard stands.subs (tokens_ascend s past) stands.agrees))
    stands.holds
    (λ refusal. refl)

-- what they send is such messages
sent_by : (s : Settings) (h : List Event) (e : Event) → AreTokenMessages (told_by_event (known_of s (past_of s h)) (entry_of s (past_of s h) e).number (named_text (past_of s h) e) e)
    → AreTokenMessages (sent_at s h e)
unfolding sent_at
sent_by s h e all = go (is_closed past) (refusal_of s past e)
  where
    past : List Entry
    past = past_of s h

    go : (c : Bool) (o : Option Refusal) → AreTokenMessages (messages_of (turn_on s past e c o).effects)
    go true None = tt
    go true (Some refusal) = tt
    go false None = subst AreTokenMessages (sym (messages_are s past e)) all
    go false (Some refusal) = tt

tells_token : (known : Known) (key : KeyArg) (number : Option ℕ) (text : Option (List ℕ)) → AreTokenMessages (told_by_event known number text (Token key))
tells_token known key (Some number) (Some text) = (refl, tt)
tells_token known key (Some number) None = tt
tells_token known key None (Some text) = tt
tells_token known key None None = tt

asks_tokens : (known : Known) (history : Bool) (key : KeyArg) (number : Option ℕ) (text : Option (List ℕ)) → AreTokenMessages (told_by_event known number text (Lsub history key))
asks_tokens known history key (Some number) (Some text) = (tt, tt)
asks_tokens known history key (Some number) None = tt
asks_tokens known history key None (Some text) = tt
asks_tokens known history key None None = tt

all_append : (xs ys : List Message) → AreTokenMessages xs → AreTokenMessages ys → AreTokenMessages (xs ++ ys)
all_append [] ys first second = second
all_append (x ∷ xs) ys first second = (first.0, all_append xs ys first.1 second)

-- what stands of a side
pub record SideStands (s : Settings) (side : Side) : Type 0 where
  pub stands : Stands s (past_of s side.history) (kept s side.history)
  pub waits : AreTokenMessages side.waiting

pub record BothStand (s : Settings) (a b : Side) : Type 0 where
  pub of_a : SideStands s a
  pub of_b : SideStands (other s) b

behind_event : (s : Settings) (e : Event) (side : Side) → SideStands s side → Stands s (past_of s (e ∷ side.history)) (kept s (e ∷ side.history)) → AreTokenMessages (sent_at s side.history e)
    → SideStands s (with_event s e side)
behind_event s e side before stands sends = record { stands = stands; waits = all_append side.waiting (sent_at s side.history e) before.waits sends }

behind_own : (s : Settings) (e : Event) (side : Side) → IsMemberEvent e → SideStands s side → SideStands s (with_event s e side)
behind_own s (Token (Text text)) side fine before =
    behind_event s (Token (Text text)) side before (step_token s side.history text (kept s side.history) before.stands)
    (sent_by s side.history (Token (Text text)) (tells_token (known_of s (past_of s side.history)) (Text text) (entry_of s (past_of s side.history) (Token (Text text))).number (named_text (past_of s side.history) (Token (Text text)))))
behind_own s (Undeclare token_kind n) side fine before =
    behind_event s (Undeclare token_kind n) side before (step_end s side.history n (kept s side.history) before.stands) (sent_by s side.history (Undeclare token_kind n) (refl, tt))
behind_own s e side fine before = absurd fine

behind_given : (s : Settings) (messages : List Message) (side : Side) → AreTokenMessages messages → SideStands s side → SideStands s (with_oldest s messages side)
behind_given s [] side all before = before
behind_given s (DeclareToken number wire None ∷ later) side all before =
    behind_event s (Net (DeclareToken number wire None)) side before (step_told s side.history number wire (kept s side.history) before.stands)
    (sent_by s side.history (Net (DeclareToken number wire None)) tt)
behind_given s (DeclareToken number wire (Some interest) ∷ later) side all before = let never : Some interest ≡ None = all.0 in cc
behind_given s (UndeclareToken number None interest ∷ later) side all before =
    behind_event s (Net (UndeclareToken number None interest)) side before (step_ended s side.history number interest (kept s side.history) before.stands)
    (sent_by s side.history (Net (UndeclareToken number None interest)) tt)
behind_given s (UndeclareToken number (Some wire) interest ∷ later) side all before = let never : Some wire ≡ None = all.0 in cc
behind_given s (Interest id mode what wire ∷ later) side all before = before
behind_given s (message ∷ later) side all before = absurd all.0

without_first : (messages : List Message) → AreTokenMessages messages → AreTokenMessages (without_oldest messages)
without_first [] all = tt
without_first (message ∷ later) all = all.1

-- behind the first event
stands_first : (s : Settings) → Starts s → Stands s (past_of s first_events) (kept s first_events)
stands_first s starts = record {
  unshut = starts.unshut;
  subs = starts.subs;
  agrees = subst (λ (turn : Turn). Agrees (noted hearing turn nobody).heard (remote_tokens s (past_of s first_events))) (sym (turn_is s [] hearing)) (go (refusal_of s [] hearing));
  holds = subst (λ (turn : Turn). Holds (next_entity s (past_of s first_events)) (λ (n : ℕ). token_now n (past_of s first_events)) (noted hearing turn nobody).tokens) (sym (turn_is s [] hearing))
      (record { up = tt; below = tt; found = λ n. none n (refusal_of s [] hearing) });
}
  where
    empty : Agrees [] []
    empty = record { is = record { ascend = ascend_nothing; there = tt }; counts = λ q. refl }

    go : (o : Option Refusal) → Agrees (heard hearer (turn_on s [] hearing false o).effects []) (remote_tokens s (with_entry o false (entry_of s [] hearing) []))
    go None = subst (λ (view : List Member). Agrees view []) (sym (hearing_behind s hearer)) empty
    go (Some refusal) = empty

    none : (n : ℕ) (o : Option Refusal) → None ≡ option_map (told_as n) (token_now n (with_entry o false (entry_of s [] hearing) []))
    none n None = refl
    none n (Some refusal) = refl

side_first : (s : Settings) → Starts s → SideStands s (with_event s hearing (record { history = []; waiting = [] }))
side_first s starts = record {
  stands = stands_first s starts;
  waits = sent_by s [] hearing (asks_tokens (known_of s []) true (Text (chars (codes "group/*"))) (entry_of s [] hearing).number (named_text [] hearing));
}

pub both_stand : (s : Settings) (lines : List LinkLine) → Starts s → Starts (other s) → AreMemberLines lines
    → BothStand s (linked_after s (lines ++ first_links)).a (linked_after s (lines ++ first_links)).b
both_stand s [] first second fine = record { of_a = side_first s first; of_b = side_first (other s) second }
both_stand s (Take A e ∷ lines) first second fine =
    let w = linked_after s (lines ++ first_links) in
    let before : BothStand s w.a w.b = both_stand s lines first second fine.1 in
    record { of_a = behind_own s e w.a fine.0 before.of_a; of_b = before.of_b }
both_stand s (Take B e ∷ lines) first second fine =
    let w = linked_after s (lines ++ first_links) in
    let before : BothStand s w.a w.b = both_stand s lines first second fine.1 in
    record { of_a = before.of_a; of_b = behind_own (other s) e w.b fine.0 before.of_b }
both_stand s (Deliver A ∷ lines) first second fine =
    let w = linked_after s (lines ++ first_links) in
    let before : BothStand s w.a w.b = both_stand s lines first second fine.1 in
    record {
      of_a = record { stands = before.of_a.stands; waits = without_first w.a.waiting before.of_a.waits };
      of_b = behind_given (other s) w.a.waiting w.b before.of_a.waits before.of_b;
    }
both_stand s (Deliver B ∷ lines) first second fine =
    let w = linked_after s (lines ++ first_links) in
    let before : BothStand s w.a w.b = both_stand s lines first second fine.1 in
    record {
      of_a = behind_given s w.b.waiting w.a before.of_b.waits before.of_a;
      of_b = record { stands = before.of_b.stands; waits = without_first w.b.waiting before.of_b.waits };
    }
