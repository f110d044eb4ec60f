-- How many of the told tokens stand for a name, behind one more and one less.
use Rattle.std.proofs.Common.{◌≡◌, ◌<◌, ℕ, Bool, true, false, List, [], ◌∷◌, Some, None, refl, sym, ◌∙◌, ap, subst, arith, cond}
use Rattle.std.specs.Prelude.{◌==◌, ◌||◌, not, nat_lt, filter, find}
use Rattle.std.specs.List.{AllByRecursion, list_any}
use Rattle.std.proofs.lemmas.Bool.Decides.{nat_tests}
use Rattle.zs_members.specs.Names.{name_in}
use Rattle.zs_subscriptions.specs.Ascending.{Ascend, placed_by}
use Rattle.zs_tables.specs.Types.{RemoteToken}
use Rattle.zs_group_laws.specs.Groups.{stands_for, one_if, remote_token_count}

-- whether a token stands for a name
abbrev pub is_of : List ℕ → RemoteToken → Bool
is_of q token = stands_for q (name_in token.key.text)

swapped : (a b : Bool) (n : ℕ) → one_if a (one_if b n) ≡ one_if b (one_if a n)
swapped true true n = refl
swapped true false n = refl
swapped false true n = refl
swapped false false n = refl

no_first : (a b : Bool) → (a || b) ≡ false → a ≡ false
no_first true b none = cc
no_first false b none = refl

no_second : (a b : Bool) → (a || b) ≡ false → b ≡ false
no_second true b none = cc
no_second false b none = none

-- one more, under a number that none has
pub one_told : (q : List ℕ) (new : RemoteToken) (tokens : List RemoteToken) → list_any (λ t. t.number == new.number) tokens ≡ false
    → remote_token_count q (placed_by (λ t. t.number) new tokens) ≡ one_if (is_of q new) (remote_token_count q tokens)
one_told q new [] none = refl
one_told q new (t ∷ tokens) none =
    go (t.number == new.number) (nat_lt new.number t.number) (no_first (t.number == new.number) (list_any (λ x. x.number == new.number) tokens) none)
    (one_told q new tokens (no_second (t.number == new.number) (list_any (λ x. x.number == new.number) tokens) none))
  where
    go : (same before : Bool) → same ≡ false → remote_token_count q (placed_by (λ x. x.number) new tokens) ≡ one_if (is_of q new) (remote_token_count q tokens)
        → remote_token_count q (cond same (new ∷ tokens) (cond before (new ∷ t ∷ tokens) (t ∷ placed_by (λ x. x.number) new tokens))) ≡ one_if (is_of q new) (one_if (is_of q t) (remote_token_count q tokens))
    go true before apart rest = cc
    go false true apart rest = refl
    go false false apart rest =
        ap (one_if (is_of q t)) rest
        ∙ swapped (is_of q t) (is_of q new) (remote_token_count q tokens)

-- without a number that none has
none_ended : (n : ℕ) (tokens : List RemoteToken) → find (λ t. t.number == n) tokens ≡ None → filter (λ t. not (t.number == n)) tokens ≡ tokens
none_ended n [] none = refl
none_ended n (t ∷ tokens) none = go (t.number == n) none (λ found. none_ended n tokens found)
  where
    go : (b : Bool) → cond b (Some t) (find (λ x. x.number == n) tokens) ≡ None → (find (λ x. x.number == n) tokens ≡ None → filter (λ x. not (x.number == n)) tokens ≡ tokens)
        → cond (not b) (t ∷ filter (λ x. not (x.number == n)) tokens) (filter (λ x. not (x.number == n)) tokens) ≡ t ∷ tokens
    go true found rest = cc
    go false found rest = ap (λ (more : List RemoteToken). t ∷ more) (rest found)

-- those behind a token have other numbers
later_none : (n : ℕ) (tokens : List RemoteToken) → AllByRecursion (λ later. n < later.number) tokens → find (λ t. t.number == n) tokens ≡ None
later_none n [] all = refl
later_none n (t ∷ tokens) all =
    let other : (t.number == n) ≡ false = grind (arith, nat_tests, all.0) in
    ap (λ (b : Bool). cond b (Some t) (find (λ x. x.number == n) tokens)) other ∙ later_none n tokens all.1

pub without_none : (q : List ℕ) (n : ℕ) (tokens : List RemoteToken) → find (λ t. t.number == n) tokens ≡ None
    → remote_token_count q (filter (λ t. not (t.number == n)) tokens) ≡ remote_token_count q tokens
without_none q n tokens none = ap (remote_token_count q) (none_ended n tokens none)

-- without one that is there
pub one_ended : (q : List ℕ) (n : ℕ) (ended : RemoteToken) (tokens : List RemoteToken) → Ascend (λ t. t.number) tokens → find (λ t. t.number == n) tokens ≡ Some ended
    → remote_token_count q tokens ≡ one_if (is_of q ended) (remote_token_count q (filter (λ t. not (t.number == n)) tokens))
one_ended q n ended [] up found = cc
one_ended q n ended (t ∷ tokens) up found = go (t.number == n) refl found (λ later. one_ended q n ended tokens up.1 later)
  where
    go : (b : Bool) → (t.number == n) ≡ b → cond b (Some t) (find (λ x. x.number == n) tokens) ≡ Some ended
        → (find (λ x. x.number == n) tokens ≡ Some ended → remote_token_count q tokens ≡ one_if (is_of q ended) (remote_token_count q (filter (λ x. not (x.number == n)) tokens)))
        → one_if (is_of q t) (remote_token_count q tokens)
        ≡ one_if (is_of q ended) (remote_token_count q (cond (not b) (t ∷ filter (λ x. not (x.number == n)) tokens) (filter (λ x. not (x.number == n)) tokens)))
    go true is found rest =
        let same : t ≡ ended = cc in
        let number : t.number ≡ n = grind (arith, nat_tests, is) in
        let others : find (λ (x : RemoteToken). x.number == n) tokens ≡ None = subst (λ (k : ℕ). find (λ (x : RemoteToken). x.number == k) tokens ≡ None) number (later_none t.number tokens up.0) in
        ap (λ (x : RemoteToken). one_if (is_of q x) (remote_token_count q tokens)) same
        ∙ ap (λ (ts : List RemoteToken). one_if (is_of q ended) (remote_token_count q ts)) (sym (none_ended n tokens others))
    go false is found rest =
        ap (one_if (is_of q t)) (rest found)
        ∙ swapped (is_of q t) (is_of q ended) (remote_token_count q (filter (λ x. not (x.number == n)) tokens))
