-- The tokens that a side holds are those that its accepted events declared and did not end.
use Rattle.std.proofs.Common.{◌≡◌, ◌<◌, ℕ, ◌+◌, Bool, true, false, List, [], ◌∷◌, ◌++◌, Option, Some, None, refl, sym, ◌∙◌, ap, subst, arith, cond}
use Rattle.std.specs.Prelude.{◌==◌, not, filter, option_map, encode_utf8_all}
use Rattle.std.specs.List.{AllByRecursion}
use Rattle.std.proofs.lemmas.Bool.Decides.{nat_tests}
use Rattle.zs_subscriptions.specs.Ascending.{Ascend}
use Rattle.zs_tables.specs.Types.{RemoteToken}
use Rattle.zs_subscriptions.proofs.Ascending.{ascend_filter}
use Rattle.zs_delivery.specs.Tokens.{told_as}
use Rattle.zs_members.specs.Names.{name_in}
use Rattle.zs_group_lines.specs.declared.tokens.Token.{Token}
use Rattle.zs_group_lines.specs.Tokens.{without}
use Rattle.zs_group_laws.specs.Groups.{stands_for, one_if, held_count, remote_token_count, told_of, as_told}
use Rattle.zs_group_laws.proofs.Same.{under}

pub held_told : (q : List ℕ) (tokens : List Token) → held_count q tokens ≡ remote_token_count q (as_told tokens)
held_told q [] = refl
held_told q (token ∷ tokens) = ap (one_if (stands_for q (name_in (encode_utf8_all token.key)))) (held_told q tokens)

-- those below a number
abbrev pub Below : ℕ → List RemoteToken → Type 0
Below n tokens = AllByRecursion (λ t. t.number < n) tokens

-- tokens held behind accepted events: they ascend below the next number, and under each number stands what these say
pub record Holds (next : ℕ) (now : ℕ → Option (List ℕ)) (tokens : List Token) : Type 0 where
  pub up : Ascend (λ t. t.number) (as_told tokens)
  pub below : Below next (as_told tokens)
  pub found : (n : ℕ) → under n (as_told tokens) ≡ option_map (told_as n) (now n)

below_next : (n : ℕ) (tokens : List RemoteToken) → Below n tokens → Below (n + 1) tokens
below_next n [] all = tt
below_next n (t ∷ tokens) all = (omega (arith, all.0), below_next n tokens all.1)

below_last : (n : ℕ) (new : RemoteToken) (tokens : List RemoteToken) → new.number ≡ n → Below n tokens → Below (n + 1) (tokens ++ new ∷ [])
below_last n new [] is all = (omega (arith, is), tt)
below_last n new (t ∷ tokens) is all = (omega (arith, all.0), below_last n new tokens is all.1)

last_above : (k n : ℕ) (new : RemoteToken) (tokens : List RemoteToken) → new.number ≡ n → k < n → AllByRecursion (λ later. k < later.number) tokens → AllByRecursion (λ later. k < later.number) (tokens ++ new ∷ [])
last_above k n new [] is less all = (omega (arith, is, less), tt)
last_above k n new (t ∷ tokens) is less all = (all.0, last_above k n new tokens is less all.1)

up_last : (n : ℕ) (new : RemoteToken) (tokens : List RemoteToken) → new.number ≡ n → Below n tokens → Ascend (λ t. t.number) tokens → Ascend (λ t. t.number) (tokens ++ new ∷ [])
up_last n new [] is all up = (tt, tt)
up_last n new (t ∷ tokens) is all up = (last_above t.number n new tokens is all.0 up.0, up_last n new tokens is all.1 up.1)

-- what stands under a number behind one more
found_last : (k n : ℕ) (new : RemoteToken) (tokens : List RemoteToken) → new.number ≡ n → Below n tokens → under k (tokens ++ new ∷ []) ≡ cond (n == k) (Some new) (under k tokens)
found_last k n new [] is all = ap (λ (m : ℕ). cond (m == k) (Some new) None) is
found_last k n new (t ∷ tokens) is all = go (t.number == k) (n == k) refl refl (found_last k n new tokens is all.1)
  where
    go : (b c : Bool) → (t.number == k) ≡ b → (n == k) ≡ c → under k (tokens ++ new ∷ []) ≡ cond (n == k) (Some new) (under k tokens)
        → cond b (Some t) (under k (tokens ++ new ∷ [])) ≡ cond c (Some new) (cond b (Some t) (under k tokens))
    go true true one two rest = absurd (let less : t.number < n = all.0 in grind (arith, nat_tests, one, two, less))
    go true false one two rest = refl
    go false c one two rest = rest ∙ ap (λ (x : Bool). cond x (Some new) (under k tokens)) two

appended : (tokens : List Token) (token : Token) → as_told (tokens ++ token ∷ []) ≡ as_told tokens ++ told_of token ∷ []
appended [] token = refl
appended (t ∷ tokens) token = ap (λ (more : List RemoteToken). told_of t ∷ more) (appended tokens token)

-- one more token, under the next number
pub holds_more : (n : ℕ) (now later : ℕ → Option (List ℕ)) (tokens : List Token) (text : List ℕ) → Holds n now tokens
    → ((k : ℕ) → later k ≡ cond (n == k) (Some (encode_utf8_all text)) (now k)) → Holds (n + 1) later (tokens ++ record { key = text; id = n } ∷ [])
holds_more n now later tokens text holds is =
    let new : Token = record { key = text; id = n } in
    let same = appended tokens new in
    record {
      up = subst (Ascend (λ (t : RemoteToken). t.number)) (sym same) (up_last n (told_of new) (as_told tokens) refl holds.below holds.up);
      below = subst (Below (n + 1)) (sym same) (below_last n (told_of new) (as_told tokens) refl holds.below);
      found = λ k.
          ap (under k) same ∙ found_last k n (told_of new) (as_told tokens) refl holds.below
          ∙ number k (n == k) refl ∙ ap (option_map (told_as k)) (sym (is k));
    }
  where
    number : (k : ℕ) (b : Bool) → (n == k) ≡ b
        → cond b (Some (told_as n (encode_utf8_all text))) (under k (as_told tokens)) ≡ option_map (told_as k) (cond b (Some (encode_utf8_all text)) (now k))
    number k true same = let number : n ≡ k = grind (arith, nat_tests, same) in ap (λ (m : ℕ). Some (told_as m (encode_utf8_all text))) number
    number k false same = holds.found k

-- one token less
removed : (n : ℕ) (tokens : List Token) → as_told (without n tokens) ≡ filter (λ t. not (t.number == n)) (as_told tokens)
removed n [] = refl
removed n (t ∷ tokens) = go (t.id == n) (removed n tokens)
  where
    go : (b : Bool) → as_told (without n tokens) ≡ filter (λ x. not (x.number == n)) (as_told tokens)
        → as_told (cond (not b) (t ∷ without n tokens) (without n tokens)) ≡ cond (not b) (told_of t ∷ filter (λ x. not (x.number == n)) (as_told tokens)) (filter (λ x. not (x.number == n)) (as_told tokens))
    go true rest = rest
    go false rest = ap (λ (more : List RemoteToken). told_of t ∷ more) rest

below_filter : (n next : ℕ) (tokens : List RemoteToken) → Below next tokens → Below next (filter (λ t. not (t.number == n)) tokens)
below_filter n next [] all = tt
below_filter n next (t ∷ tokens) all = go (t.number == n) (below_filter n next tokens all.1)
  where
    go : (b : Bool) → Below next (filter (λ x. not (x.number == n)) tokens) → Below next (cond (not b) (t ∷ filter (λ x. not (x.number == n)) tokens) (filter (λ x. not (x.number == n)) tokens))
    go true rest = rest
    go false rest = (all.0, rest)

found_without : (k n : ℕ) (tokens : List RemoteToken) → under k (filter (λ t. not (t.number == n)) tokens) ≡ cond (n == k) None (under k tokens)
found_without k n [] = go (n == k)
  where
    go : (b : Bool) → under k [] ≡ cond b None (under k [])
    go true = refl
    go false = refl
found_without k n (t ∷ tokens) = go (t.number == n) (t.number == k) (n == k) refl refl refl (found_without k n tokens)
  where
    go : (a b c : Bool) → (t.number == n) ≡ a → (t.number == k) ≡ b → (n == k) ≡ c → under k (filter (λ x. not (x.number == n)) tokens) ≡ cond (n == k) None (under k tokens)
        → under k (cond (not a) (t ∷ filter (λ x. not (x.number == n)) tokens) (filter (λ x. not (x.number == n)) tokens)) ≡ cond c None (cond b (Some t) (under k tokens))
    go true true true one two three rest = rest ∙ ap (λ (x : Bool). cond x None (under k tokens)) three
    go true true false one two three rest = absurd (grind (arith, nat_tests, one, two, three))
    go true false c one two three rest = rest ∙ ap (λ (x : Bool). cond x None (under k tokens)) three
    go false true true one two three rest = absurd (grind (arith, nat_tests, one, two, three))
    go false true false one two three rest = ap (λ (x : Bool). cond x (Some t) (under k (filter (λ (y : RemoteToken). not (y.number == n)) tokens))) two
    go false false c one two three rest =
        ap (λ (x : Bool). cond x (Some t) (under k (filter (λ (y : RemoteToken). not (y.number == n)) tokens))) two
        ∙ rest ∙ ap (λ (x : Bool). cond x None (under k tokens)) three

pub holds_less : (n next : ℕ) (now later : ℕ → Option (List ℕ)) (tokens : List Token) → Holds next now tokens → ((k : ℕ) → later k ≡ cond (n == k) None (now k)) → Holds next later (without n tokens)
holds_less n next now later tokens holds is =
    let same = removed n tokens in
    record {
      up = subst (Ascend (λ (t : RemoteToken). t.number)) (sym same) (ascend_filter (λ (t : RemoteToken). t.number) (λ (t : RemoteToken). not (t.number == n)) (as_told tokens) holds.up);
      below = subst (Below next) (sym same) (below_filter n next (as_told tokens) holds.below);
      found = λ k.
          ap (under k) same ∙ found_without k n (as_told tokens) ∙ ap (λ (o : Option RemoteToken). cond (n == k) None o) (holds.found k)
          ∙ go k (n == k) ∙ ap (option_map (told_as k)) (sym (is k));
    }
  where
    go : (k : ℕ) (b : Bool) → cond b None (option_map (told_as k) (now k)) ≡ option_map (told_as k) (cond b None (now k))
    go k true = refl
    go k false = refl
