-- The tokens that the network told, by their numbers.
use Rattle.std.proofs.Common.{◌≡◌, ℕ, List, [], ◌∷◌, Bool, true, false, Option, Some, None, refl, sym, ◌∙◌, ap, arith}
use Rattle.std.specs.Prelude.{◌==◌, ◌&&◌, ◌||◌, not, filter, option_map, if◌then◌else◌}
use Rattle.std.specs.List.{find, list_any}
use Rattle.std.specs.Option.{option_or}
use Rattle.std.proofs.lemmas.Bool.Decides.{nat_tests}
use Rattle.zs_keys.specs.Key.{undeclared}
use Rattle.zs_events.specs.Kinds.{ToLiveliness, NoToken, Subscribes, AsksTokens, TellsToken, EndsToken, EndsAnswers, row_of}
use Rattle.zs_subscriptions.specs.Ascending.{Ascend, placed_by}
use Rattle.zs_tables.specs.Liveliness.{put_new}
use Rattle.zs_tables.specs.Types.{LivelinessGet, RemoteToken}
use Rattle.zs_subscriptions.proofs.Ascending.{ascend_placed, ascend_filter}
use Rattle.zs_model.specs.declared.settings.Settings.{Settings}
use Rattle.zs_model.specs.Entry.{Entry}
use Rattle.zs_model.specs.Tokens.{answers, remote_tokens_behind, remote_tokens, text_behind, token_text, asking_now}

-- the text that stands under a number
abbrev pub text_under : ℕ → List RemoteToken → Option (List ℕ)
text_under n tokens = option_map (λ (t : RemoteToken). t.key.text) (find (λ t. t.number == n) tokens)

found_placed : (n : ℕ) (new : RemoteToken) (tokens : List RemoteToken)
    → text_under n (placed_by (λ t. t.number) new tokens) ≡ (if new.number == n then Some new.key.text else text_under n tokens)
found_placed n new [] = grind (arith, nat_tests)
found_placed n new (t ∷ tokens) = grind (arith, nat_tests, found_placed n new tokens)

found_there : (n : ℕ) (tokens : List RemoteToken) (text : List ℕ) → list_any (λ t. t.number == n) tokens ≡ true → option_or (text_under n tokens) (Some text) ≡ text_under n tokens
found_there n [] text there = cc
found_there n (t ∷ tokens) text there = go (t.number == n) there (found_there n tokens text)
  where
    go : (b : Bool) → (b || list_any (λ t. t.number == n) tokens) ≡ true
        → (list_any (λ t. t.number == n) tokens ≡ true → option_or (text_under n tokens) (Some text) ≡ text_under n tokens)
        → option_or (option_map (λ (t : RemoteToken). t.key.text) (if b then Some t else find (λ t. t.number == n) tokens)) (Some text)
        ≡ option_map (λ (t : RemoteToken). t.key.text) (if b then Some t else find (λ t. t.number == n) tokens)
    go true there ih = refl
    go false there ih = ih there

missing_there : (n : ℕ) (tokens : List RemoteToken) (text : List ℕ) → list_any (λ t. t.number == n) tokens ≡ false → option_or (text_under n tokens) (Some text) ≡ Some text
missing_there n [] text none = refl
missing_there n (t ∷ tokens) text none = go (t.number == n) none (missing_there n tokens text)
  where
    go : (b : Bool) → (b || list_any (λ t. t.number == n) tokens) ≡ false
        → (list_any (λ t. t.number == n) tokens ≡ false → option_or (text_under n tokens) (Some text) ≡ Some text)
        → option_or (option_map (λ (t : RemoteToken). t.key.text) (if b then Some t else find (λ t. t.number == n) tokens)) (Some text) ≡ Some text
    go true none ih = cc
    go false none ih = ih none

-- one more stands under its number, unless one stood there
found_put : (n id : ℕ) (text : List ℕ) (tokens : List RemoteToken)
    → text_under n (put_new (λ t. t.number) (record { number = id; key = undeclared text }) tokens)
    ≡ (if id == n then option_or (text_under n tokens) (Some text) else text_under n tokens)
found_put n id text tokens = go (list_any (λ t. t.number == id) tokens) refl
  where
    new : RemoteToken
    new = record { number = id; key = undeclared text }

    there : (b : Bool) → (id == n) ≡ b → list_any (λ t. t.number == id) tokens ≡ true → text_under n tokens ≡ (if b then option_or (text_under n tokens) (Some text) else text_under n tokens)
    there true is any = let same : id ≡ n = grind (arith, nat_tests, is) in sym (found_there n tokens text (rw same at any))
    there false is any = refl

    placed : (b : Bool) → (id == n) ≡ b → list_any (λ t. t.number == id) tokens ≡ false
        → (if b then Some text else text_under n tokens) ≡ (if b then option_or (text_under n tokens) (Some text) else text_under n tokens)
    placed true is none = let same : id ≡ n = grind (arith, nat_tests, is) in sym (missing_there n tokens text (rw same at none))
    placed false is none = refl

    go : (b : Bool) → list_any (λ t. t.number == id) tokens ≡ b
        → text_under n (if b then tokens else placed_by (λ t. t.number) new tokens) ≡ (if id == n then option_or (text_under n tokens) (Some text) else text_under n tokens)
    go true any = there (id == n) refl any
    go false none = found_placed n new tokens ∙ placed (id == n) refl none

-- and none where it was taken out
found_left : (n id : ℕ) (tokens : List RemoteToken) → text_under n (filter (λ t. not (t.number == id)) tokens) ≡ (if id == n then None else text_under n tokens)
found_left n id [] = grind (arith, nat_tests)
found_left n id (t ∷ tokens) = grind (arith, nat_tests, found_left n id tokens)

or_none : (o : Option (List ℕ)) → option_or o None ≡ o
or_none None = refl
or_none (Some text) = refl

-- what an event makes of the text under a number
text_step : (gets : List LivelinessGet) (n : ℕ) (to : ToLiveliness) (text : Option (List ℕ)) (tokens : List RemoteToken)
    → text_under n (remote_tokens_behind gets to text tokens) ≡ text_behind gets n to text (text_under n tokens)
text_step gets n NoToken text tokens = refl
text_step gets n (Subscribes history) text tokens = refl
text_step gets n (AsksTokens timeout token) text tokens = refl
text_step gets n (EndsAnswers interest) text tokens = refl
text_step gets n (EndsToken id interest) text tokens = found_left n id tokens
text_step gets n (TellsToken id interest) None tokens = go (id == n && not (answers interest gets))
  where
    go : (b : Bool) → text_under n tokens ≡ (if b then option_or (text_under n tokens) None else text_under n tokens)
    go true = sym (or_none (text_under n tokens))
    go false = refl
text_step gets n (TellsToken id interest) (Some text) tokens = go (answers interest gets)
  where
    none : (b : Bool) → text_under n tokens ≡ (if b && false then option_or (text_under n tokens) (Some text) else text_under n tokens)
    none true = refl
    none false = refl

    put : (b : Bool) → (if b then option_or (text_under n tokens) (Some text) else text_under n tokens)
        ≡ (if b && true then option_or (text_under n tokens) (Some text) else text_under n tokens)
    put true = refl
    put false = refl

    go : (b : Bool) → text_under n (if b then tokens else put_new (λ t. t.number) (record { number = id; key = undeclared text }) tokens)
        ≡ (if id == n && not b then option_or (text_under n tokens) (Some text) else text_under n tokens)
    go true = none (id == n)
    go false = found_put n id text tokens ∙ put (id == n)

pub texts_told : (s : Settings) (past : List Entry) (n : ℕ) → text_under n (remote_tokens s past) ≡ token_text s n past
texts_told s [] n = refl
texts_told s (x ∷ past) n =
    text_step (asking_now s past) n (row_of x.event).to_liveliness x.text (remote_tokens s past)
    ∙ ap (text_behind (asking_now s past) n (row_of x.event).to_liveliness x.text) (texts_told s past n)

-- the numbers ascend
ascend_put : (new : RemoteToken) (tokens : List RemoteToken) → Ascend (λ (t : RemoteToken). t.number) tokens → Ascend (λ (t : RemoteToken). t.number) (put_new (λ t. t.number) new tokens)
ascend_put new tokens up = go (list_any (λ t. t.number == new.number) tokens)
  where
    go : (b : Bool) → Ascend (λ (t : RemoteToken). t.number) (if b then tokens else placed_by (λ t. t.number) new tokens)
    go true = up
    go false = ascend_placed (λ (t : RemoteToken). t.number) new tokens up

told_ascend : (gets : List LivelinessGet) (to : ToLiveliness) (text : Option (List ℕ)) (tokens : List RemoteToken) → Ascend (λ (t : RemoteToken). t.number) tokens
    → Ascend (λ (t : RemoteToken). t.number) (remote_tokens_behind gets to text tokens)
told_ascend gets NoToken text tokens up = up
told_ascend gets (Subscribes history) text tokens up = up
told_ascend gets (AsksTokens timeout token) text tokens up = up
told_ascend gets (EndsAnswers interest) text tokens up = up
told_ascend gets (EndsToken id interest) text tokens up = ascend_filter (λ (t : RemoteToken). t.number) (λ t. not (t.number == id)) tokens up
told_ascend gets (TellsToken id interest) None tokens up = up
told_ascend gets (TellsToken id interest) (Some text) tokens up = go (answers interest gets)
  where
    go : (b : Bool) → Ascend (λ (t : RemoteToken). t.number) (if b then tokens else put_new (λ t. t.number) (record { number = id; key = undeclared text }) tokens)
    go true = up
    go false = ascend_put (record { number = id; key = undeclared text }) tokens up

pub tokens_ascend : (s : Settings) (past : List Entry) → Ascend (λ (t : RemoteToken). t.number) (remote_tokens s past)
tokens_ascend s [] = tt
tokens_ascend s (x ∷ past) = told_ascend (asking_now s past) (row_of x.event).to_liveliness x.text (remote_tokens s past) (tokens_ascend s past)
