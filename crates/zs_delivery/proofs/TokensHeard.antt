-- What an open session was told of the network's tokens, from what came in.
use Rattle.std.proofs.Common.{◌≡◌, ℕ, List, [], ◌∷◌, Bool, true, false, Option, Some, None, refl, sym, ◌∙◌, ap, subst, cond, arith}
use Rattle.std.specs.Prelude.{◌==◌, ◌||◌, find, option_map, if◌then◌else◌}
use Rattle.std.specs.List.{list_any}
use Rattle.std.proofs.lemmas.Bool.Decides.{nat_tests}
use Rattle.zs_keys.specs.Key.{undeclared}
use Rattle.zs_keys.specs.Text.{is_canonical}
use Rattle.zs_wire.specs.declared.message.Message.{Message}
use Rattle.zs_wire.specs.declared.message.Message.TheVariants.{DeclareToken, UndeclareToken}
use Rattle.zs_wire.specs.declared.wire_expr.WireExpr.{WireExpr}
use Rattle.zs_subscriptions.specs.Ascending.{placed_by}
use Rattle.zs_tables.specs.Liveliness.{put_new}
use Rattle.zs_tables.specs.Types.{LivelinessGet, RemoteToken}
use Rattle.zs_events.specs.declared.event.Event.{Event}
use Rattle.zs_events.specs.declared.event.Event.TheVariants.{Net}
use Rattle.zs_events.specs.declared.turn.Refusal.{Refusal}
use Rattle.zs_events.specs.Kinds.{row_of}
use Rattle.zs_core.specs.Types.{Settings}
use Rattle.zs_core.specs.Entry.{Entry, is_closed}
use Rattle.zs_core.specs.HeldKeys.{wire_text}
use Rattle.zs_core.specs.Tokens.{with_remote_token, remote_tokens_behind, remote_tokens, is_remote_token, asking_now}
use Rattle.zs_core.specs.Causes.{holds, in_order, first_that, refusal_of}
use Rattle.zs_core.specs.Past.{entry_of, with_entry, past_with, past_of}
use Rattle.zs_delivery.specs.Links.{given}
use Rattle.zs_delivery.specs.Tokens.{declared_token, told_as}
use Rattle.zs_delivery.proofs.Accepting.{sight_of, first_cause}
use Rattle.zs_delivery.proofs.Known.{AreSound, Knows, wire_known, known_after, open_before}
use Rattle.zs_delivery.proofs.Renewed.{under_without}
use Rattle.zs_delivery.proofs.Telling.{stands_in}
use Rattle.zs_delivery.proofs.TokensKept.{IsPlainToken, ArePlainTokens}

abbrev pub token_number : RemoteToken → ℕ
token_number token = token.number

-- an open session accepts a declaration whose key it can read
token_causes : (id : ℕ) (wire : WireExpr) (c : Bool) (o : Option (List ℕ)) (text : List ℕ) → c ≡ false → o ≡ Some text → is_canonical text ≡ true
    → first_cause c (row_of (Net (DeclareToken id wire None))) o ≡ None
token_causes id wire c o text unshut named canonical =
    subst (λ (b : Bool). first_cause b (row_of (Net (DeclareToken id wire None))) o ≡ None) (sym unshut)
    (subst (λ (x : Option (List ℕ)). first_cause false (row_of (Net (DeclareToken id wire None))) x ≡ None) (sym named) (rw canonical refl))

-- and each end that names no key
end_causes : (id : ℕ) (interest : Option ℕ) (spared c : Bool) → c ≡ false
    → first_that (holds c (row_of (Net (UndeclareToken id None interest))) (record (sight_of None) { spared = spared })) in_order ≡ None
end_causes id interest true c unshut =
    subst (λ (b : Bool). first_that (holds b (row_of (Net (UndeclareToken id None interest))) (record (sight_of None) { spared = true })) in_order ≡ None) (sym unshut) refl
end_causes id interest false c unshut =
    subst (λ (b : Bool). first_that (holds b (row_of (Net (UndeclareToken id None interest))) (record (sight_of None) { spared = false })) in_order ≡ None) (sym unshut) refl

-- one more token stands under its number
under_placed : (id : ℕ) (new : RemoteToken) (tokens : List RemoteToken)
    → find (λ t. t.number == id) (placed_by (λ t. t.number) new tokens) ≡ (if new.number == id then Some new else find (λ t. t.number == id) tokens)
under_placed id new [] = grind (arith, nat_tests)
under_placed id new (t ∷ tokens) = grind (arith, nat_tests, under_placed id new tokens)

there_under : (n : ℕ) (tokens : List RemoteToken) → list_any (λ t. t.number == n) tokens ≡ true → find (λ t. t.number == n) tokens ≡ None → ⊥
there_under n [] there none = cc
there_under n (t ∷ tokens) there none = go (t.number == n) there none (there_under n tokens)
  where
    go : (b : Bool) → (b || list_any (λ t. t.number == n) tokens) ≡ true → cond b (Some t) (find (λ t. t.number == n) tokens) ≡ None
        → (list_any (λ t. t.number == n) tokens ≡ true → find (λ t. t.number == n) tokens ≡ None → ⊥) → ⊥
    go true there none rest = cc
    go false there none rest = rest there none

under_put : (id : ℕ) (new : RemoteToken) (tokens : List RemoteToken) → find (λ t. t.number == new.number) tokens ≡ None
    → find (λ t. t.number == id) (put_new (λ t. t.number) new tokens) ≡ cond (new.number == id) (Some new) (find (λ t. t.number == id) tokens)
under_put id new tokens none = go (list_any (λ t. t.number == new.number) tokens) refl
  where
    go : (b : Bool) → list_any (λ t. t.number == new.number) tokens ≡ b
        → find (λ t. t.number == id) (if b then tokens else placed_by (λ t. t.number) new tokens) ≡ cond (new.number == id) (Some new) (find (λ t. t.number == id) tokens)
    go true any = absurd (there_under new.number tokens any none)
    go false any = under_placed id new tokens

token_added : (gets : List LivelinessGet) (number id : ℕ) (tokens : List RemoteToken) (o : Option (List ℕ)) (text : List ℕ) → o ≡ Some text → find (λ t. t.number == number) tokens ≡ None
    → find (λ t. t.number == id) (with_remote_token gets number None o tokens) ≡ cond (number == id) (Some (told_as number text)) (find (λ t. t.number == id) tokens)
token_added gets number id tokens None text is none = cc
token_added gets number id tokens (Some t) text is none =
    let same : t ≡ text = cc in
    under_put id (told_as number t) tokens none
    ∙ ap (λ (x : List ℕ). cond (number == id) (Some (told_as number x)) (find (λ t. t.number == id) tokens)) same

-- an event that tells nothing of tokens leaves them as they were
tokens_kept : (s : Settings) (past : List Entry) (e : Event)
    → ((gets : List LivelinessGet) (text : Option (List ℕ)) (tokens : List RemoteToken) → remote_tokens_behind gets (row_of e).to_liveliness text tokens ≡ tokens)
    → remote_tokens s (past_with s e past) ≡ remote_tokens s past
tokens_kept s past e kept = go (refusal_of s past e) (is_closed past)
  where
    go : (o : Option Refusal) (c : Bool) → remote_tokens s (with_entry o c (entry_of s past e) past) ≡ remote_tokens s past
    go (Some refusal) c = refl
    go None true = refl
    go None false = kept (asking_now s past) (entry_of s past e).text (remote_tokens s past)

-- a session was told just these tokens
abbrev pub HasHeard : List RemoteToken → List Message → Type 0
HasHeard tokens messages = (id : ℕ) → find (λ t. t.number == id) tokens ≡ declared_token id messages

heard_message : (s : Settings) (past : List Entry) (before : List Message) (m : Message) → is_closed past ≡ false → Knows past before → IsPlainToken before m
    → HasHeard (remote_tokens s past) before → HasHeard (remote_tokens s (past_with s (Net m) past)) (m ∷ before)
heard_message s past before (DeclareToken number wire None) unshut knows plain heard = λ id.
    let text = plain.readable.text in
    let named : wire_text past wire ≡ Some text = wire_known past before wire text knows plain.readable.reads in
    let accepted : refusal_of s past (Net (DeclareToken number wire None)) ≡ None =
    token_causes number wire (is_closed past) (wire_text past wire) text unshut named plain.readable.canonical in
    stands_in (λ (p : List Entry). find (λ t. t.number == id) (remote_tokens s p)) s past (Net (DeclareToken number wire None)) unshut accepted
    ∙ token_added (asking_now s past) number id (remote_tokens s past) (wire_text past wire) text named (heard number ∙ plain.new)
    ∙ ap (λ (o : Option RemoteToken). cond (number == id) (Some (told_as number text)) o) (heard id)
    ∙ ap (λ (o : Option (List ℕ)). cond (number == id) (option_map (λ (t : List ℕ). record { number = number; key = undeclared t }) o) (declared_token id before)) (sym plain.readable.reads)
heard_message s past before (DeclareToken number wire (Some interest)) unshut knows plain heard = let never : ⊥ = (let asked : Some interest ≡ None = plain.asked in cc) in absurd never
heard_message s past before (UndeclareToken number None interest) unshut knows plain heard = λ id.
    stands_in (λ (p : List Entry). find (λ t. t.number == id) (remote_tokens s p)) s past (Net (UndeclareToken number None interest)) unshut
    (end_causes number interest (is_remote_token number (remote_tokens s past)) (is_closed past) unshut)
    ∙ under_without token_number number id (remote_tokens s past)
    ∙ ap (λ (o : Option RemoteToken). cond (number == id) None o) (heard id)
heard_message s past before (UndeclareToken number (Some wire) interest) unshut knows plain heard = cc
heard_message s past before m unshut knows plain heard = λ id.
    ap (λ (tokens : List RemoteToken). find (λ t. t.number == id) tokens) (tokens_kept s past (Net m) (λ gets text tokens. refl)) ∙ heard id

heard_own : (s : Settings) (past : List Entry) (before : List Message) (e : Event)
    → ((gets : List LivelinessGet) (text : Option (List ℕ)) (tokens : List RemoteToken) → remote_tokens_behind gets (row_of e).to_liveliness text tokens ≡ tokens)
    → HasHeard (remote_tokens s past) before → HasHeard (remote_tokens s (past_with s e past)) before
heard_own s past before e kept heard = λ id. ap (λ (tokens : List RemoteToken). find (λ t. t.number == id) tokens) (tokens_kept s past e kept) ∙ heard id

-- so an open session was told just what came in, where that was plain
pub heard_after : (s : Settings) (h : List Event) → is_closed (past_of s h) ≡ false → AreSound (given h) → ArePlainTokens (given h) → HasHeard (remote_tokens s (past_of s h)) (given h)
heard_after s [] unshut sound plain = λ id. refl
heard_after s (Net m ∷ h) unshut sound plain =
    let before : is_closed (past_of s h) ≡ false = open_before s (past_of s h) (Net m) unshut in
    heard_message s (past_of s h) (given h) m before (known_after s h before sound.1) plain.0 (heard_after s h before sound.1 plain.1)
heard_after s (e ∷ h) unshut sound plain =
    let before : is_closed (past_of s h) ≡ false = open_before s (past_of s h) e unshut in
    heard_own s (past_of s h) (given h) e (λ gets text tokens. refl) (heard_after s h before sound plain)
