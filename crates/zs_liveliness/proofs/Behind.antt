-- A walk over ascending numbers, from each to the next.
use Rattle.std.proofs.Common.{◌≡◌, ℕ, ◌<◌, Bool, true, false, List, [], ◌∷◌, ◌++◌, length, Option, Some, None, refl, sym, ap, ◌∙◌, subst, true≢false, append_assoc, arith}
use Rattle.std.specs.Prelude.{nat_lt, filter}
use Rattle.std.proofs.lemmas.Bool.Decides.{nat_tests}
use Rattle.std.proofs.lemmas.List.{append-nil}
use Rattle.zs_rows.specs.Ascending.{Ascend}
use Rattle.zs_rows.specs.Rows.{is_behind, first_of}
use Rattle.zs_rows.proofs.Ascending.{all_weaker}
use Rattle.zs_rows.proofs.Following.{keep_all}

over_again : (after : Option ℕ) (n q : ℕ) → is_behind after n ≡ true → n < q → is_behind after q ≡ true
over_again None n q over lt = refl
over_again (Some a) n q over lt = grind (arith, nat_tests, over, lt)

not_over : (after : Option ℕ) (x n : ℕ) → is_behind after x ≡ false → is_behind after n ≡ true → nat_lt n x ≡ false
not_over None x n out over = absurd (true≢false out)
not_over (Some a) x n out over = grind (arith, nat_tests, out, over)

-- the next one is behind the last one
next_over : (after : Option ℕ) (n : ℕ) (xs : List ℕ) → Some n ≡ first_of (filter (λ m. is_behind after m) xs) → is_behind after n ≡ true
next_over after n [] is = absurd (cc)
next_over after n (x ∷ xs) is = go (is_behind after x) refl (next_over after n xs)
  where
    go : (b : Bool) → is_behind after x ≡ b → (Some n ≡ first_of (filter (λ m. is_behind after m) xs) → is_behind after n ≡ true) → is_behind after n ≡ true
    go true over more =
        let there : Some n ≡ Some x = rw over at is in
        let same : x ≡ n = cc in
        subst (λ (m : ℕ). is_behind after m ≡ true) same over
    go false out more = more (rw out at is)

-- the numbers behind the last one are the next and those behind it
pub next_and_rest : (after : Option ℕ) (n : ℕ) (xs : List ℕ) → Ascend (λ m. m) xs → Some n ≡ first_of (filter (λ m. is_behind after m) xs) → filter (λ m. is_behind after m) xs ≡ n ∷ filter (λ m. is_behind (Some n) m) xs
next_and_rest after n [] up is = absurd (cc)
next_and_rest after n (x ∷ xs) up is = go (is_behind after x) refl (next_and_rest after n xs up.1)
  where
    go : (b : Bool) → is_behind after x ≡ b → (Some n ≡ first_of (filter (λ m. is_behind after m) xs) → filter (λ m. is_behind after m) xs ≡ n ∷ filter (λ m. is_behind (Some n) m) xs) → filter (λ m. is_behind after m) (x ∷ xs) ≡ n ∷ filter (λ m. is_behind (Some n) m) (x ∷ xs)
    go true over more =
        let there : Some n ≡ Some x = rw over at is in
        let same : x ≡ n = cc in
        let itself : nat_lt n x ≡ false = grind (arith, nat_tests, same) in
        let all : filter (λ m. is_behind after m) xs ≡ xs = keep_all (λ m. is_behind after m) xs (all_weaker (λ m. x < m) (λ m. is_behind after m ≡ true) (λ m lt. over_again after x m over lt) xs up.0) in
        let rest : filter (λ m. nat_lt n m) xs ≡ xs = keep_all (λ m. nat_lt n m) xs (all_weaker (λ m. x < m) (λ m. nat_lt n m ≡ true) (λ m lt. grind (arith, nat_tests, same, lt)) xs up.0) in
        rw (over, itself, all, rest) (ap (λ (m : ℕ). m ∷ xs) same)
    go false out more =
        let rest = more (rw out at is) in
        let later : nat_lt n x ≡ false = not_over after x n out (next_over after n xs (rw out at is)) in
        rw (out, later) rest

none_left : (xs : List ℕ) → None ≡ first_of xs → xs ≡ []
none_left [] none = refl
none_left (x ∷ xs) none = absurd (cc)

-- how far a walk has come
pub walk_more : (after : Option ℕ) (n : ℕ) (numbers xs : List ℕ) → Ascend (λ m. m) xs → Some n ≡ first_of (filter (λ m. is_behind after m) xs) → numbers ++ filter (λ m. is_behind after m) xs ≡ xs → (numbers ++ n ∷ []) ++ filter (λ m. is_behind (Some n) m) xs ≡ xs
walk_more after n numbers xs up is so_far = append_assoc numbers (n ∷ []) (filter (λ m. is_behind (Some n) m) xs) ∙ (ap (λ ms. numbers ++ ms) (sym (next_and_rest after n xs up is)) ∙ so_far)

pub walk_less : (after : Option ℕ) (n : ℕ) (xs : List ℕ) → Ascend (λ m. m) xs → Some n ≡ first_of (filter (λ m. is_behind after m) xs) → length (filter (λ m. is_behind (Some n) m) xs) < length (filter (λ m. is_behind after m) xs)
walk_less after n xs up is = let long = ap length (next_and_rest after n xs up is) in omega (arith, long)

pub walk_all : (after : Option ℕ) (numbers xs : List ℕ) → None ≡ first_of (filter (λ m. is_behind after m) xs) → numbers ++ filter (λ m. is_behind after m) xs ≡ xs → numbers ≡ xs
walk_all after numbers xs none so_far = sym (append-nil numbers) ∙ (ap (λ ms. numbers ++ ms) (sym (none_left (filter (λ m. is_behind after m) xs) none)) ∙ so_far)
