-- What a receiver of all that was sent knows of numbers goes with the table of declared keys.
use Rattle.std.proofs.Common.{◌≡◌, ℕ, List, [], ◌∷◌, ◌++◌, Bool, true, false, Option, Some, None, refl, sym, ◌∙◌, ap, subst, arith}
use Rattle.std.specs.Prelude.{◌==◌, is_some, unwrap_or, option_map, chars, if◌then◌else◌, encode_utf8_all, IsUtf8}
use Rattle.std.specs.Option.{IfSome}
use Rattle.std.proofs.lemmas.Str.{encodes-chars}
use Rattle.zs_keys.specs.Key.{Key as a_key, undeclared}
use Rattle.zs_wire.specs.declared.message.Message.{Message}
use Rattle.zs_wire.specs.declared.message.Message.TheVariants.{DeclareKeyExpr, UndeclareKeyExpr}
use Rattle.zs_wire.specs.declared.wire_expr.WireExpr.{WireExpr}
use Rattle.zs_subscriptions.specs.Numbers.{NumberedKey, key_at, number_at, without}
use Rattle.zs_events.specs.declared.event.Event.{Event}
use Rattle.zs_events.specs.declared.event.Event.TheVariants.{Key, UndeclareKey, Close}
use Rattle.zs_events.specs.declared.key_arg.KeyArg.TheVariants.{Text, Number, Declared as declared_text}
use Rattle.zs_events.specs.declared.turn.Effect.TheVariants.{Send}
use Rattle.zs_events.specs.Kinds.{NamedKey, Publishes, KeyNumber, row_of}
use Rattle.zs_model.specs.declared.settings.Settings.{Settings}
use Rattle.zs_world.specs.declared.change.Change.{Change}
use Rattle.zs_world.specs.declared.change.Change.TheVariants.{OfKeys, Shut}
use Rattle.zs_world.specs.declared.change.KeyChange.TheVariants.{Release, Declare}
use Rattle.zs_world.specs.declared.change.Decision.{Decision}
use Rattle.zs_world.specs.World.{World}
use Rattle.zs_model.specs.Entry.{Entry}
use Rattle.zs_model.specs.Past.{past_of}
use Rattle.zs_entity_tables.specs.DeclaredKeys.{is_last}
use Rattle.zs_world.specs.Keys.{key_of}
use Rattle.zs_world.specs.Changes.{change_for, key_change, key_change_by, with_change}
use Rattle.zs_model.specs.Publishers.{resolved}
use Rattle.zs_model.specs.Sends.{full_wire, key_sends, return_sends, publication_sends, sends_of}
use Rattle.zs_model.specs.Effects.{to_gets_for, draws_of, answering, entity_sends, effects}
use Rattle.zs_world.specs.Decisions.{text_for, number_of, number_for, own_keys_at, known_at}
use Rattle.zs_standing.specs.Stands.{world_of, world_after}
use Rattle.zs_model.specs.Received.{messages_of, sent_behind, sent, number_text, AreUtf8}
use Rattle.zs_standing.proofs.Numbers.{key_at-placed, key_at-without}
use Rattle.zs_standing.proofs.Decisions.{cases, entry_for}
use Rattle.zs_standing.proofs.Stands.{standing, steps}
use Rattle.zs_laws.proofs.SentMessages.{same_messages, asked_by, answered_by, told_by_event, all_messages, behind_both}
use Rattle.zs_laws.proofs.Reading.{IsTold, asks_told, answers_told}
use Rattle.zs_laws.proofs.Sends.{Announced, ASubscriber, announcement, announced_wire, Retracted, OfSubscriber, retraction, entity_cases, publication_cases}
use Rattle.zs_model.specs.HeldKeys.{declares_number, returns_number}
use Rattle.zs_standing.proofs.Saying.{IsMade}
use Rattle.zs_standing.proofs.Changes.{made}
use Rattle.std.proofs.lemmas.Bool.Decides.{nat_tests}

-- what a receiver knows goes with the table, change by change
pub key_told : (w : World) (text : Option (List ℕ)) (before : List Message) → IsTold w before → IfSome text IsUtf8
    → IsTold (with_change (key_change w text) w) (sent_behind (messages_of (key_sends (own_keys_at w) (number_of w KeyNumber text) text)) before)
key_told w None before told utf8 = told
key_told w (Some text) before told utf8 = go (number_at text w.keys.local_resources)
  where
    pick : (n : ℕ) (t : Bool) → (if t then Some (encode_utf8_all (chars text)) else number_text n before)
        ≡ option_map (λ (key : a_key). key.text) (if t then Some (undeclared text) else key_at n w.keys.local_resources)
    pick n true = ap (λ (t : List ℕ). Some t) (encodes-chars text utf8)
    pick n false = told.numbers n

    spell : (n : ℕ) (key : a_key) (t : Bool) → (if t then Some (undeclared text) else key_at n w.keys.local_resources) ≡ Some key → IsUtf8 key.text
    spell n key true at = let same : text ≡ key.text = cc in subst IsUtf8 same utf8
    spell n key false at = told.spelled n key at

    go : (o : Option ℕ) → IsTold (with_change (key_change_by w text o) w)
        (sent_behind (messages_of (if is_some o then [] else Send (DeclareKeyExpr (unwrap_or o w.counters.key) (full_wire text)) ∷ [])) before)
    go (Some n) = record { numbers = told.numbers; spelled = told.spelled }
    go None = record {
      numbers = λ n.
          pick n (w.counters.key == n)
          ∙ ap (option_map (λ (key : a_key). key.text)) (sym (key_at-placed n (record { number = w.counters.key; key = undeclared text }) w.keys.local_resources));
      spelled = λ n key at.
          spell n key (w.counters.key == n) (sym (key_at-placed n (record { number = w.counters.key; key = undeclared text }) w.keys.local_resources) ∙ at);
    }

pub return_told : (w : World) (number : ℕ) (before : List Message) → IsTold w before
    → IsTold (with_change (OfKeys (Release number)) w) (sent_behind (messages_of (return_sends (own_keys_at w) number)) before)
return_told w number before told = record { numbers = λ n. go n (is_last number w.keys.holders); spelled = λ n key at. spell n key (is_last number w.keys.holders) at }
  where
    pick : (n : ℕ) (t : Bool) → (if t then None else number_text n before) ≡ option_map (λ (key : a_key). key.text) (if t then None else key_at n w.keys.local_resources)
    pick n true = refl
    pick n false = told.numbers n

    go : (n : ℕ) (b : Bool) → number_text n (sent_behind (messages_of (if b then Send (UndeclareKeyExpr number) ∷ [] else [])) before)
        ≡ option_map (λ (key : a_key). key.text) (key_at n (if b then without number w.keys.local_resources else w.keys.local_resources))
    go n true = pick n (number == n) ∙ ap (option_map (λ (key : a_key). key.text)) (sym (key_at-without n number w.keys.local_resources))
    go n false = told.numbers n

    known : (n : ℕ) (key : a_key) (t : Bool) → (if t then None else key_at n w.keys.local_resources) ≡ Some key → IsUtf8 key.text
    known n key true at = cc
    known n key false at = told.spelled n key at

    spell : (n : ℕ) (key : a_key) (b : Bool) → key_at n (if b then without number w.keys.local_resources else w.keys.local_resources) ≡ Some key → IsUtf8 key.text
    spell n key true at = known n key (number == n) (sym (key_at-without n number w.keys.local_resources) ∙ at)
    spell n key false at = told.spelled n key at

-- a publication's message tells no number
push_tells : (w : World) (key : NamedKey) (text : Option (List ℕ)) (p : Publishes) (before : List Message) (n : ℕ)
    → number_text n (sent_behind (messages_of (publication_sends (own_keys_at w) key text p)) before) ≡ number_text n before
push_tells w key text p before n =
    publication_cases (λ fx. number_text n (sent_behind (messages_of fx) before) ≡ number_text n before) refl (own_keys_at w) key text p (λ t c named is sent. refl)

-- an event that neither declares a key nor gives one back leaves the numbers that stand for keys
same_number : (n : ℕ) → (n == n) ≡ true
same_number n = grind (arith, nat_tests)

keys_kept : (w : World) (x : Entry) (c : Change) → IsMade w x c → (with_change c w).closed ≡ false → ((n : ℕ) → declares_number n x.event x.number ≡ false) → ((n : ℕ) → returns_number n x.event ≡ false)
    → (with_change c w).keys.local_resources ≡ w.keys.local_resources
keys_kept w x (OfKeys (Declare number key)) m still declares returns = let no : true ≡ false = sym (same_number number) ∙ sym (m.keys.declares number) ∙ declares number in cc
keys_kept w x (OfKeys (Release number)) m still declares returns = let no : true ≡ false = sym (same_number number) ∙ sym (m.keys.returns number) ∙ returns number in cc
keys_kept w x Shut m still declares returns = cc
keys_kept w x c m still declares returns = refl

other_told : (w : World) (e : Event) (before : List Message) → IsMade w (entry_for w e) (change_for w e) → (with_change (change_for w e) w).closed ≡ false
    → ((n : ℕ) → declares_number n e (number_for w e) ≡ false) → ((n : ℕ) → returns_number n e ≡ false) → IsTold w before
    → IsTold (with_change (change_for w e) w) (sent_behind (messages_of (publication_sends (own_keys_at w) (row_of e).key (text_for w e) (resolved w.entities.pubs (row_of e).publishes))) before)
other_told w e before m still declares returns told =
    let kept = keys_kept w (entry_for w e) (change_for w e) m still declares returns in
    record {
      numbers = λ n.
          push_tells w (row_of e).key (text_for w e) (resolved w.entities.pubs (row_of e).publishes) before n
          ∙ told.numbers n ∙ ap (λ (rows : List NumberedKey). option_map (λ (key : a_key). key.text) (key_at n rows)) (sym kept);
      spelled = λ n key at. told.spelled n key (ap (key_at n) (sym kept) ∙ at);
    }

sends_told : (w : World) (e : Event) (before : List Message) → IsMade w (entry_for w e) (change_for w e) → (with_change (change_for w e) w).closed ≡ false → IsTold w before → IfSome (text_for w e) IsUtf8
    → IsTold (with_change (change_for w e) w) (sent_behind (messages_of (sends_of (own_keys_at w) w.entities.pubs (number_for w e) (text_for w e) e)) before)
sends_told w (Key key) before m still told utf8 = key_told w (key_of w key) before told utf8
sends_told w (UndeclareKey (Text text)) before m still told utf8 = told
sends_told w (UndeclareKey (Number number suffix)) before m still told utf8 = return_told w number before told
sends_told w (UndeclareKey (declared_text text number prefix_len)) before m still told utf8 = return_told w number before told
sends_told w Close before m still told utf8 = cc
sends_told w e before m still told utf8 = other_told w e before m still (λ n. refl) (λ n. refl) told

-- nothing that is sent of entities tells a number
quiet_begun : (what : Announced) (id : ℕ) (wire : WireExpr) (before : List Message) (n : ℕ) → number_text n (announcement what id wire ∷ before) ≡ number_text n before
quiet_begun ASubscriber id wire before n = refl
quiet_begun what id wire before n = refl

quiet_ended : (what : Retracted) (id : ℕ) (before : List Message) (n : ℕ) → number_text n (retraction what id ∷ before) ≡ number_text n before
quiet_ended OfSubscriber id before n = refl
quiet_ended what id before n = refl

pub quiet_groups : (w : World) (number : Option ℕ) (text : Option (List ℕ)) (e : Event) (before : List Message) (n : ℕ)
    → number_text n (sent_behind (messages_of (entity_sends (known_at w) e number text)) before) ≡ number_text n before
quiet_groups w number text e before n =
    entity_cases (λ fx. number_text n (sent_behind (messages_of fx) before) ≡ number_text n before) refl (known_at w) e number text
    (λ what id t key is named. quiet_begun what id (announced_wire (known_at w) what t key) before n) (λ what id is. quiet_ended what id before n)

event_told : (w : World) (e : Event) (before : List Message) → IsMade w (entry_for w e) (change_for w e) → (with_change (change_for w e) w).closed ≡ false → IsTold w before → IfSome (text_for w e) IsUtf8
    → IsTold (with_change (change_for w e) w) (sent_behind (told_by_event (known_at w) (number_for w e) (text_for w e) e) before)
event_told w e before m still told utf8 =
    let drawn = draws_of (known_at w) (number_for w e) (text_for w e) e in
    let asked = asked_by (known_at w) (number_for w e) (text_for w e) e in
    let answered = answered_by (known_at w) (number_for w e) (text_for w e) e in
    let xs = messages_of (sends_of (own_keys_at w) w.entities.pubs (number_for w e) (text_for w e) e) in
    let ys = messages_of (entity_sends (known_at w) e (number_for w e) (text_for w e)) in
    let behind : IsTold w (sent_behind asked before) = asks_told w (row_of e).key drawn (number_for w e) (text_for w e) (to_gets_for (known_at w) e) before told in
    let last : IsTold w (sent_behind answered (sent_behind asked before)) =
    answers_told w (answering (known_at w)) (row_of e).key drawn (text_for w e) (row_of e).to_values (sent_behind asked before) behind in
    let now : IsTold (with_change (change_for w e) w) (sent_behind xs (sent_behind answered (sent_behind asked before))) =
    sends_told w e (sent_behind answered (sent_behind asked before)) m still last utf8 in
    record {
      numbers = λ n.
          ap (number_text n)
          (behind_both asked (answered ++ (xs ++ ys)) before ∙ behind_both answered (xs ++ ys) (sent_behind asked before) ∙ behind_both xs ys (sent_behind answered (sent_behind asked before)))
          ∙ quiet_groups w (number_for w e) (text_for w e) e (sent_behind xs (sent_behind answered (sent_behind asked before))) n
          ∙ now.numbers n;
      spelled = now.spelled;
    }

-- behind each history a receiver of what was sent knows the numbers
pub told_after : (s : Settings) (h : List Event) → (world_after s h).closed ≡ false → AreUtf8 (past_of s h) → IsTold (world_after s h) (sent s h)
told_after s [] = λ still utf8. record { numbers = λ n. refl; spelled = λ n key at. cc }
told_after s (e ∷ h) =
    let w = world_after s h in
    let P = λ (d : Decision) (past : List Entry). (world_of s past).closed ≡ false → AreUtf8 past → IsTold (world_of s past) (sent_behind (messages_of d.turn.effects) (sent s h)) in
    subst (λ (ms : List Message). (world_after s (e ∷ h)).closed ≡ false → AreUtf8 (past_of s (e ∷ h)) → IsTold (world_after s (e ∷ h)) (sent_behind ms (sent s h)))
    (same_messages s w (past_of s h) e (standing s h))
    (steps s h e P (cases w e (past_of s h) P
    (λ refusal number fx c still utf8. told_after s h still utf8)
    (λ shut still utf8. told_after s h still utf8)
    (λ unshut accepted still utf8.
    subst (λ (ms : List Message). IsTold (with_change (change_for w e) w) (sent_behind ms (sent s h))) (sym (all_messages w e))
    (event_told w e (sent s h) (made w e unshut accepted) still (told_after s h unshut utf8.1) utf8.0))))
