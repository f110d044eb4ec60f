-- Told tokens in ascending order are known by what stands under each number.
use Rattle.std.proofs.Common.{◌≡◌, ◌<◌, ℕ, Bool, true, false, List, [], ◌∷◌, Option, Some, None, refl, sym, ◌∙◌, ap, subst, arith, cond}
use Rattle.std.specs.Prelude.{◌==◌, nat_lt, find}
use Rattle.std.specs.List.{AllByRecursion}
use Rattle.std.proofs.lemmas.Bool.Decides.{nat_tests}
use Rattle.zs_subscriptions.specs.Ascending.{Ascend}
use Rattle.zs_tables.specs.Types.{RemoteToken}

abbrev token_number : RemoteToken → ℕ
token_number t = t.number

abbrev pub under : ℕ → List RemoteToken → Option RemoteToken
under n tokens = find (λ (t : RemoteToken). t.number == n) tokens

-- nothing stands below the first number
below_none : (n : ℕ) (tokens : List RemoteToken) → AllByRecursion (λ later. n < later.number) tokens → under n tokens ≡ None
below_none n [] all = refl
below_none n (t ∷ tokens) all =
    let other : (t.number == n) ≡ false = grind (arith, nat_tests, all.0) in
    ap (λ (b : Bool). cond b (Some t) (under n tokens)) other ∙ below_none n tokens all.1

below_more : (m n : ℕ) (tokens : List RemoteToken) → m < n → AllByRecursion (λ later. n < later.number) tokens → AllByRecursion (λ later. m < later.number) tokens
below_more m n [] less all = tt
below_more m n (t ∷ tokens) less all = (omega (arith, less, all.0), below_more m n tokens less all.1)

itself : (t : RemoteToken) (tokens : List RemoteToken) → under t.number (t ∷ tokens) ≡ Some t
itself t tokens =
    let same : (t.number == t.number) ≡ true = grind (arith, nat_tests) in
    ap (λ (b : Bool). cond b (Some t) (under t.number tokens)) same

-- the first ones have the same number
not_below : (x y : RemoteToken) (xs ys : List RemoteToken) → AllByRecursion (λ later. y.number < later.number) ys
    → ((n : ℕ) → under n (x ∷ xs) ≡ under n (y ∷ ys)) → nat_lt x.number y.number ≡ true → ⊥
not_below x y xs ys up same less =
    let before : x.number < y.number = grind (arith, nat_tests, less) in
    let none : under x.number (y ∷ ys) ≡ None = below_none x.number (y ∷ ys) (before, below_more x.number y.number ys before up) in
    let never : Some x ≡ None = sym (itself x xs) ∙ same x.number ∙ none in
    cc

rest_same : (x : RemoteToken) (xs ys : List RemoteToken) → AllByRecursion (λ later. x.number < later.number) xs → AllByRecursion (λ later. x.number < later.number) ys
    → ((n : ℕ) → under n (x ∷ xs) ≡ under n (x ∷ ys)) → (n : ℕ) → under n xs ≡ under n ys
rest_same x xs ys up up' same n = go (x.number == n) refl (same n)
  where
    go : (b : Bool) → (x.number == n) ≡ b → cond b (Some x) (under n xs) ≡ cond b (Some x) (under n ys) → under n xs ≡ under n ys
    go true is both =
        let number : x.number ≡ n = grind (arith, nat_tests, is) in
        subst (λ (k : ℕ). under k xs ≡ under k ys) number (below_none x.number xs up ∙ sym (below_none x.number ys up'))
    go false is both = both

pub same_tokens : (xs ys : List RemoteToken) → Ascend (λ t. t.number) xs → Ascend (λ t. t.number) ys → ((n : ℕ) → under n xs ≡ under n ys) → xs ≡ ys
same_tokens [] [] up up' same = refl
same_tokens [] (y ∷ ys) up up' same = let never : None ≡ Some y = same y.number ∙ itself y ys in cc
same_tokens (x ∷ xs) [] up up' same = let never : Some x ≡ None = sym (itself x xs) ∙ same x.number in cc
same_tokens (x ∷ xs) (y ∷ ys) up up' same = go (nat_lt x.number y.number) (nat_lt y.number x.number) refl refl (λ rest. same_tokens xs ys up.1 up'.1 rest)
  where
    equal : (((n : ℕ) → under n xs ≡ under n ys) → xs ≡ ys) → x ≡ y → x ∷ xs ≡ y ∷ ys
    equal later is =
        let ups : AllByRecursion (λ later. x.number < later.number) ys = subst (λ (k : ℕ). AllByRecursion (λ (later : RemoteToken). k < later.number) ys) (sym (ap token_number is)) up'.0 in
        let rest : (n : ℕ) → under n xs ≡ under n ys =
        rest_same x xs ys up.0 ups (subst (λ (t : RemoteToken). (n : ℕ) → under n (x ∷ xs) ≡ under n (t ∷ ys)) (sym is) same) in
        ap (λ (t : RemoteToken). t ∷ xs) is ∙ ap (λ (more : List RemoteToken). y ∷ more) (later rest)

    first : x.number ≡ y.number → x ≡ y
    first number =
        let found : under x.number (y ∷ ys) ≡ Some y = subst (λ (k : ℕ). under k (y ∷ ys) ≡ Some y) (sym number) (itself y ys) in
        let both : Some x ≡ Some y = sym (itself x xs) ∙ same x.number ∙ found in
        cc

    go : (b c : Bool) → nat_lt x.number y.number ≡ b → nat_lt y.number x.number ≡ c → (((n : ℕ) → under n xs ≡ under n ys) → xs ≡ ys) → x ∷ xs ≡ y ∷ ys
    go true c less more later = absurd (not_below x y xs ys up'.0 same less)
    go false true less more later = absurd (not_below y x ys xs up.0 (λ n. sym (same n)) more)
    go false false less more later = equal later (first (grind (arith, nat_tests, less, more)))
