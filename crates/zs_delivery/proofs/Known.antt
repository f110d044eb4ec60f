-- What a receiver knows of its sender's numbers, from what came in.
use Rattle.std.proofs.Common.{◌≡◌, ℕ, List, [], ◌∷◌, ◌++◌, Bool, true, false, Option, Some, None, refl, sym, ◌∙◌, ap, subst, arith}
use Rattle.std.specs.Prelude.{◌==◌, option_map, filter, if◌then◌else◌, encode_utf8_all, ◌||◌}
use Rattle.std.proofs.lemmas.Bool.{eqb-true}
use Rattle.std.proofs.lemmas.Bool.Decides.{nat_tests}
use Rattle.zs_keys.specs.Text.{is_canonical}
use Rattle.zs_wire.specs.declared.message.Message.{Message}
use Rattle.zs_wire.specs.declared.message.Message.TheVariants.{DeclareKeyExpr, UndeclareKeyExpr, Push as push_message}
use Rattle.zs_wire.specs.declared.wire_expr.Mapping.{Mapping}
use Rattle.zs_wire.specs.declared.wire_expr.Mapping.TheVariants.{Sender, Receiver}
use Rattle.zs_wire.specs.declared.wire_expr.WireExpr.{WireExpr}
use Rattle.zs_events.specs.declared.event.Event.{Event}
use Rattle.zs_events.specs.declared.event.Event.TheVariants.{Net}
use Rattle.zs_events.specs.declared.turn.Refusal.{Refusal}
use Rattle.zs_core.specs.Types.{Settings}
use Rattle.zs_core.specs.Entry.{Entry, is_closed}
use Rattle.zs_core.specs.HeldKeys.{tells_number, remote_text, mapped_text, wire_text}
use Rattle.zs_core.specs.Causes.{refusal_of}
use Rattle.zs_core.specs.Past.{entry_of, with_entry, past_with, past_of}
use Rattle.zs_core.specs.Received.{of_sender, read_by, number_text, read_as}
use Rattle.zs_delivery.specs.Linked.{is_event}
use Rattle.zs_delivery.specs.Links.{given}
use Rattle.zs_delivery.proofs.Accepting.{key_accepted}

-- a receiver of these messages reads a wire expression as a canonical text
pub record IsReadable (before : List Message) (wire : WireExpr) : Type 0 where
  pub text : List ℕ
  pub reads : read_as before wire ≡ Some text
  pub canonical : is_canonical text ≡ true

-- so it is with each number that is told, and each push
abbrev pub IsSound : List Message → Message → Type 0
IsSound before (DeclareKeyExpr number wire) = IsReadable before wire
IsSound before (push_message push) = IsReadable before push.wire
IsSound before message = Unit {0}

abbrev pub AreSound : List Message → Type 0
AreSound [] = Unit {0}
AreSound (message ∷ before) = IsSound before message × AreSound before

-- what a receiver of messages reads of a number, the past knows
pub record Knows (past : List Entry) (before : List Message) : Type 0 where
  pub told : (n : ℕ) (text : List ℕ) → (n == 0) ≡ false → number_text n before ≡ Some text → remote_text n past ≡ Some text

-- so it reads what a receiver of the messages reads
pub wire_known : (past : List Entry) (before : List Message) (wire : WireExpr) (text : List ℕ) → Knows past before → read_as before wire ≡ Some text → wire_text past wire ≡ Some text
wire_known past before wire text knows reads = by (wire.scope == 0) refl reads
  where
    joined : (o : Option (List ℕ)) → number_text wire.scope before ≡ o → (wire.scope == 0) ≡ false → option_map (λ (t : List ℕ). t ++ encode_utf8_all wire.suffix) o ≡ Some text
        → option_map (λ (t : List ℕ). t ++ encode_utf8_all wire.suffix) (remote_text wire.scope past) ≡ Some text
    joined (Some front) at other is = ap (option_map (λ (t : List ℕ). t ++ encode_utf8_all wire.suffix)) (knows.told wire.scope front other at) ∙ is
    joined None at other is = cc

    mapped : (m : Mapping) → (wire.scope == 0) ≡ false → option_map (λ (t : List ℕ). t ++ encode_utf8_all wire.suffix) (of_sender m (number_text wire.scope before)) ≡ Some text
        → option_map (λ (t : List ℕ). t ++ encode_utf8_all wire.suffix) (mapped_text m wire.scope past) ≡ Some text
    mapped Sender other is = joined (number_text wire.scope before) refl other is
    mapped Receiver other is = cc

    by : (z : Bool) → (wire.scope == 0) ≡ z
        → (if z then Some (encode_utf8_all wire.suffix) else option_map (λ (t : List ℕ). t ++ encode_utf8_all wire.suffix) (of_sender wire.mapping (number_text wire.scope before))) ≡ Some text
        → (if z then Some (encode_utf8_all wire.suffix) else option_map (λ (t : List ℕ). t ++ encode_utf8_all wire.suffix) (mapped_text wire.mapping wire.scope past)) ≡ Some text
    by true z is = is
    by false z is = mapped wire.mapping z is

-- an event that tells nothing of a number leaves it as it was
pub untold : (n : ℕ) (s : Settings) (past : List Entry) (e : Event) → tells_number n e ≡ false → remote_text n (past_with s e past) ≡ remote_text n past
untold n s past e tells = go (refusal_of s past e) (is_closed past)
  where
    go : (o : Option Refusal) (c : Bool) → remote_text n (with_entry o c (entry_of s past e) past) ≡ remote_text n past
    go (Some refusal) c = refl
    go None true = refl
    go None false = ap (λ (b : Bool). if b then (entry_of s past e).text else remote_text n past) tells

-- a session that is open behind an event was open before it
pub open_before : (s : Settings) (past : List Entry) (e : Event) → is_closed (past_with s e past) ≡ false → is_closed past ≡ false
open_before s past e unshut = go (refusal_of s past e) (is_closed past) refl unshut
  where
    rest : (a c : Bool) → (a || c) ≡ false → c ≡ false
    rest true c is = cc
    rest false c is = is

    go : (o : Option Refusal) (c : Bool) → is_closed past ≡ c → is_closed (with_entry o c (entry_of s past e) past) ≡ false → is_closed past ≡ false
    go (Some refusal) c at is = is
    go None true at is = is
    go None false at is = at

-- behind a number that was told and accepted stands its text
pub told_now : (s : Settings) (past : List Entry) (number : ℕ) (wire : WireExpr) (text : List ℕ) → is_closed past ≡ false → (number == 0) ≡ false
    → wire_text past wire ≡ Some text → is_canonical text ≡ true → remote_text number (past_with s (Net (DeclareKeyExpr number wire)) past) ≡ Some text
told_now s past number wire text unshut other named canonical =
    go (refusal_of s past (Net (DeclareKeyExpr number wire))) (key_accepted s past number wire text unshut other named canonical) (is_closed past) unshut
  where
    own : (b : Bool) → b ≡ true → (if b then wire_text past wire else remote_text number past) ≡ Some text
    own true is = named
    own false is = cc

    go : (o : Option Refusal) → o ≡ None → (c : Bool) → c ≡ false
        → remote_text number (with_entry o c (entry_of s past (Net (DeclareKeyExpr number wire))) past) ≡ Some text
    go (Some refusal) is c at = cc
    go None is true at = cc
    go None is false at = own (number == number) (grind (arith, nat_tests))

-- what is known behind a message that came in
pub knows_message : (s : Settings) (past : List Entry) (before : List Message) (m : Message) → is_closed past ≡ false → IsSound before m → Knows past before
    → Knows (past_with s (Net m) past) (m ∷ before)
knows_message s past before (DeclareKeyExpr number wire) unshut sound knows = record { told = λ n text other is. go n text other (number == n) refl is }
  where
    go : (n : ℕ) (text : List ℕ) → (n == 0) ≡ false → (b : Bool) → (number == n) ≡ b
        → (if b then read_as before wire else number_text n before) ≡ Some text
        → remote_text n (past_with s (Net (DeclareKeyExpr number wire)) past) ≡ Some text
    go n text other false at is = untold n s past (Net (DeclareKeyExpr number wire)) at ∙ knows.told n text other is
    go n text other true at is =
        let same : number ≡ n = eqb-true number n at in
        let its : Some sound.text ≡ Some text = sym sound.reads ∙ is in
        subst (λ (k : ℕ). remote_text k (past_with s (Net (DeclareKeyExpr number wire)) past) ≡ Some text) same
        (told_now s past number wire sound.text unshut (subst (λ (k : ℕ). (k == 0) ≡ false) (sym same) other)
        (wire_known past before wire sound.text knows sound.reads) sound.canonical ∙ its)
knows_message s past before (UndeclareKeyExpr number) unshut sound knows = record { told = λ n text other is. go n text other (number == n) is }
  where
    go : (n : ℕ) (text : List ℕ) → (n == 0) ≡ false → (b : Bool) → (if b then None else number_text n before) ≡ Some text
        → remote_text n (past_with s (Net (UndeclareKeyExpr number)) past) ≡ Some text
    go n text other true is = cc
    go n text other false is = untold n s past (Net (UndeclareKeyExpr number)) refl ∙ knows.told n text other is
knows_message s past before m unshut sound knows = record { told = λ n text other is. untold n s past (Net m) refl ∙ knows.told n text other is }

-- an event of the application tells nothing of the network's numbers
pub knows_own : (s : Settings) (past : List Entry) (before : List Message) (e : Event) → ((n : ℕ) → tells_number n e ≡ false) → Knows past before → Knows (past_with s e past) before
knows_own s past before e tells knows = record { told = λ n text other is. untold n s past e (tells n) ∙ knows.told n text other is }

-- so a session that is open knows what came in, where that was sound
pub known_after : (s : Settings) (h : List Event) → is_closed (past_of s h) ≡ false → AreSound (given h) → Knows (past_of s h) (given h)
known_after s [] unshut sound = record { told = λ n text other is. is }
known_after s (Net m ∷ h) unshut sound =
    let before : is_closed (past_of s h) ≡ false = open_before s (past_of s h) (Net m) unshut in
    knows_message s (past_of s h) (given h) m before sound.0 (known_after s h before sound.1)
known_after s (e ∷ h) unshut sound =
    let before : is_closed (past_of s h) ≡ false = open_before s (past_of s h) e unshut in
    knows_own s (past_of s h) (given h) e (λ n. refl) (known_after s h before sound)

-- an interest tells nothing of numbers
pub same_numbers : (n : ℕ) (ms : List Message) → number_text n (filter is_event ms) ≡ number_text n ms
same_numbers n [] = refl
same_numbers n (DeclareKeyExpr number wire ∷ ms) =
    ap (λ (o : Option (List ℕ)). if number == n then read_by wire (of_sender wire.mapping o) else number_text n (filter is_event ms)) (same_numbers wire.scope ms)
    ∙ ap (λ (o : Option (List ℕ)). if number == n then read_as ms wire else o) (same_numbers n ms)
same_numbers n (UndeclareKeyExpr number ∷ ms) = ap (λ (o : Option (List ℕ)). if number == n then None else o) (same_numbers n ms)
same_numbers n (m ∷ ms) = same_numbers n ms

pub same_reading : (before : List Message) (wire : WireExpr) → read_as (filter is_event before) wire ≡ read_as before wire
same_reading before wire = ap (λ (o : Option (List ℕ)). read_by wire (of_sender wire.mapping o)) (same_numbers wire.scope before)

-- so what is readable is so for a receiver that is given no interests
pub readable_still : (before : List Message) (wire : WireExpr) → IsReadable before wire → IsReadable (filter is_event before) wire
readable_still before wire readable = record { text = readable.text; reads = same_reading before wire ∙ readable.reads; canonical = readable.canonical }
