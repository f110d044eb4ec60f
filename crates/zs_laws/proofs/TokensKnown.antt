-- A token of the network is known while no event ended it behind the one that told it.
use Rattle.std.proofs.Common.{◌≡◌, ℕ, List, [], ◌∷◌, Bool, true, false, Option, Some, None, refl, sym, ◌∙◌, ap}
use Rattle.std.specs.Prelude.{◌==◌, ◌&&◌, ◌||◌, not, nat_lt, filter, if◌then◌else◌}
use Rattle.std.specs.List.{list_any}
use Rattle.std.specs.Option.{option_or}
use Rattle.std.proofs.lemmas.Bool.{eqb-true}
use Rattle.zs_keys.specs.Key.{undeclared}
use Rattle.zs_subscriptions.specs.Ascending.{placed_by}
use Rattle.zs_tables.specs.Types.{LivelinessGet, RemoteToken}
use Rattle.zs_events.specs.declared.event.Event.{Event}
use Rattle.zs_events.specs.Kinds.{ToLiveliness, NoToken, Subscribes, AsksTokens, TellsToken, EndsToken, EndsAnswers, row_of}
use Rattle.zs_model.specs.declared.settings.Settings.{Settings}
use Rattle.zs_model.specs.Entry.{Entry}
use Rattle.zs_model.specs.Tokens.{answers, asking_now, is_remote_token, remote_tokens_behind, remote_tokens, text_behind, token_text}
use Rattle.zs_laws.specs.Plain.{tells_token, ends_token_of, ends_token, token_unended, unended_text, TokensAreUnended}

-- one more among rows, whether or not one had its number
placed_known : (new : RemoteToken) (n : ℕ) (tokens : List RemoteToken) → is_remote_token n (placed_by (λ t. t.number) new tokens) ≡ ((new.number == n) || is_remote_token n tokens)
placed_known new n [] = refl
placed_known new n (t ∷ tokens) = go (t.number == new.number) refl (nat_lt new.number t.number) (placed_known new n tokens)
  where
    turn : (a b c : Bool) → (a || (b || c)) ≡ (b || (a || c))
    turn true true c = refl
    turn true false c = refl
    turn false b c = refl

    twice : (a b c : Bool) → a ≡ b → (b || c) ≡ (b || (a || c))
    twice true true c same = refl
    twice true false c same = cc
    twice false true c same = refl
    twice false false c same = refl

    go : (b : Bool) → (t.number == new.number) ≡ b → (l : Bool) → is_remote_token n (placed_by (λ r. r.number) new tokens) ≡ ((new.number == n) || is_remote_token n tokens)
        → is_remote_token n (if b then new ∷ tokens else if l then new ∷ t ∷ tokens else t ∷ placed_by (λ r. r.number) new tokens) ≡ ((new.number == n) || ((t.number == n) || is_remote_token n tokens))
    go true is l ih = twice (t.number == n) (new.number == n) (is_remote_token n tokens) (ap (λ (m : ℕ). m == n) (eqb-true t.number new.number is))
    go false is true ih = refl
    go false is false ih = ap (λ (b : Bool). (t.number == n) || b) ih ∙ turn (t.number == n) (new.number == n) (is_remote_token n tokens)

-- one that is known stays as it is
put_known : (new : RemoteToken) (n : ℕ) (tokens : List RemoteToken)
    → is_remote_token n (if is_remote_token new.number tokens then tokens else placed_by (λ t. t.number) new tokens) ≡ ((new.number == n) || is_remote_token n tokens)
put_known new n tokens = go (is_remote_token new.number tokens) refl (new.number == n) refl
  where
    go : (b : Bool) → is_remote_token new.number tokens ≡ b → (e : Bool) → (new.number == n) ≡ e → is_remote_token n (if b then tokens else placed_by (λ t. t.number) new tokens) ≡ ((new.number == n) || is_remote_token n tokens)
    go true is true same = rw same (ap (λ (m : ℕ). is_remote_token m tokens) (sym (eqb-true new.number n same)) ∙ is)
    go true is false same = rw same refl
    go false is e same = placed_known new n tokens

-- those of another number stay
others_known : (id n : ℕ) (tokens : List RemoteToken) → is_remote_token n (filter (λ t. not (t.number == id)) tokens) ≡ (not (id == n) && is_remote_token n tokens)
others_known id n [] = go (id == n)
  where
    go : (b : Bool) → false ≡ (not b && false)
    go true = refl
    go false = refl
others_known id n (t ∷ tokens) = go (t.number == id) refl (t.number == n) refl (id == n) refl (others_known id n tokens)
  where
    go : (b : Bool) → (t.number == id) ≡ b → (c : Bool) → (t.number == n) ≡ c → (e : Bool) → (id == n) ≡ e → is_remote_token n (filter (λ r. not (r.number == id)) tokens) ≡ (not e && is_remote_token n tokens)
        → is_remote_token n (if not b then t ∷ filter (λ r. not (r.number == id)) tokens else filter (λ r. not (r.number == id)) tokens) ≡ (not e && (c || is_remote_token n tokens))
    go true is true here true same ih = ih
    go true is true here false same ih = let no : true ≡ false = sym here ∙ ap (λ (m : ℕ). m == n) (eqb-true t.number id is) ∙ same in cc
    go true is false here true same ih = ih
    go true is false here false same ih = ih
    go false is true here true same ih = let no : false ≡ true = sym is ∙ ap (λ (m : ℕ). t.number == m) (eqb-true id n same) ∙ here in cc
    go false is true here false same ih = rw here refl
    go false is false here true same ih = rw here ih
    go false is false here false same ih = rw here ih

-- what an event makes of it
step_known : (gets : List LivelinessGet) (to : ToLiveliness) (text : Option (List ℕ)) (n : ℕ) (tokens : List RemoteToken)
    → is_remote_token n (remote_tokens_behind gets to text tokens) ≡ (tells_token n gets to text || (not (ends_token_of n to) && is_remote_token n tokens))
step_known gets NoToken text n tokens = refl
step_known gets (Subscribes history) text n tokens = refl
step_known gets (AsksTokens timeout token) text n tokens = refl
step_known gets (TellsToken id interest) None n tokens = refl
step_known gets (TellsToken id interest) (Some text) n tokens = go (answers interest gets) (id == n) refl
  where
    new : RemoteToken
    new = record { number = id; key = undeclared text }

    go : (b e : Bool) → (id == n) ≡ e
        → is_remote_token n (if b then tokens else if is_remote_token id tokens then tokens else placed_by (λ t. t.number) new tokens) ≡ (e && not b || is_remote_token n tokens)
    go true true same = refl
    go true false same = refl
    go false true same = put_known new n tokens ∙ ap (λ (b : Bool). b || is_remote_token n tokens) same
    go false false same = put_known new n tokens ∙ ap (λ (b : Bool). b || is_remote_token n tokens) same
step_known gets (EndsToken id interest) text n tokens = others_known id n tokens
step_known gets (EndsAnswers interest) text n tokens = refl

mixed : (t e i l r : Bool) → (i && not (e || l)) ≡ r → ((t || (not e && i)) && not l) ≡ (t && not l || r)
mixed true true i true r same = go i same
  where
    go : (i : Bool) → (i && false) ≡ r → false ≡ r
    go true same = same
    go false same = same
mixed true true i false r same = refl
mixed true false i true r same = go i same
  where
    go : (i : Bool) → (i && false) ≡ r → false ≡ r
    go true same = same
    go false same = same
mixed true false i false r same = refl
mixed false true i true r same = go i same
  where
    go : (i : Bool) → (i && false) ≡ r → false ≡ r
    go true same = same
    go false same = same
mixed false true i false r same = go i same
  where
    go : (i : Bool) → (i && false) ≡ r → false ≡ r
    go true same = same
    go false same = same
mixed false false i true r same = same
mixed false false i false r same = same

behind : (s : Settings) (n : ℕ) (later : List Event) (past : List Entry) → (is_remote_token n (remote_tokens s past) && not (list_any (ends_token n) later)) ≡ token_unended s n later past
behind s n later [] = refl
behind s n later (x ∷ past) =
    let gets = asking_now s past in
    let to = (row_of x.event).to_liveliness in
    ap (λ (b : Bool). b && not (list_any (ends_token n) later)) (step_known gets to x.text n (remote_tokens s past))
    ∙ mixed (tells_token n gets to x.text) (ends_token n x.event) (is_remote_token n (remote_tokens s past)) (list_any (ends_token n) later) (token_unended s n (x.event ∷ later) past) (behind s n (x.event ∷ later) past)

and_true : (b : Bool) → b ≡ (b && true)
and_true true = refl
and_true false = refl

-- the text that stands for it
none_or : (o : Option (List ℕ)) → option_or o None ≡ o
none_or None = refl
none_or (Some text) = refl

text_step : (gets : List LivelinessGet) (to : ToLiveliness) (text : Option (List ℕ)) (n : ℕ) (known : Option (List ℕ))
    → text_behind gets n to text known ≡ option_or (if ends_token_of n to then None else known) (if tells_token n gets to text then text else None)
text_step gets NoToken text n known = sym (none_or known)
text_step gets (Subscribes history) text n known = sym (none_or known)
text_step gets (AsksTokens timeout token) text n known = sym (none_or known)
text_step gets (TellsToken id interest) None n known = go (id == n && not (answers interest gets))
  where
    go : (b : Bool) → (if b then option_or known None else known) ≡ option_or known None
    go true = refl
    go false = sym (none_or known)
text_step gets (TellsToken id interest) (Some text) n known = go (id == n && not (answers interest gets))
  where
    go : (b : Bool) → (if b then option_or known (Some text) else known) ≡ option_or known (if b then Some text else None)
    go true = refl
    go false = sym (none_or known)
text_step gets (EndsToken id interest) text n known = sym (none_or (if id == n then None else known))
text_step gets (EndsAnswers interest) text n known = sym (none_or known)

text_mixed : (l e t : Bool) (text known here rest : Option (List ℕ)) → here ≡ option_or (if e then None else known) (if t then text else None) → (if e || l then None else known) ≡ rest
    → (if l then None else here) ≡ option_or rest (if t && not l then text else None)
text_mixed true true true text known here rest step ih = ap (λ (o : Option (List ℕ)). option_or o None) ih
text_mixed true true false text known here rest step ih = ap (λ (o : Option (List ℕ)). option_or o None) ih
text_mixed true false true text known here rest step ih = ap (λ (o : Option (List ℕ)). option_or o None) ih
text_mixed true false false text known here rest step ih = ap (λ (o : Option (List ℕ)). option_or o None) ih
text_mixed false true true text known here rest step ih = step ∙ ap (λ (o : Option (List ℕ)). option_or o text) ih
text_mixed false true false text known here rest step ih = step ∙ ap (λ (o : Option (List ℕ)). option_or o None) ih
text_mixed false false true text known here rest step ih = step ∙ ap (λ (o : Option (List ℕ)). option_or o text) ih
text_mixed false false false text known here rest step ih = step ∙ ap (λ (o : Option (List ℕ)). option_or o None) ih

texts_behind : (s : Settings) (n : ℕ) (later : List Event) (past : List Entry) → (if list_any (ends_token n) later then None else token_text s n past) ≡ unended_text s n later past
texts_behind s n later [] = go (list_any (ends_token n) later)
  where
    go : (b : Bool) → ◌≡◌ {A = Option (List ℕ)} (if b then None else None) None
    go true = refl
    go false = refl
texts_behind s n later (x ∷ past) =
    let gets = asking_now s past in
    let to = (row_of x.event).to_liveliness in
    text_mixed (list_any (ends_token n) later) (ends_token n x.event) (tells_token n gets to x.text) x.text (token_text s n past) (token_text s n (x ∷ past)) (unended_text s n (x.event ∷ later) past)
    (text_step gets to x.text n (token_text s n past)) (texts_behind s n (x.event ∷ later) past)

pub tokens_are_unended : TokensAreUnended
tokens_are_unended s past n = (and_true (is_remote_token n (remote_tokens s past)) ∙ behind s n [] past, texts_behind s n [] past)
