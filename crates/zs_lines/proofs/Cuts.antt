-- Where the first line feed of some bytes is, and which line comes first.
use Rattle.std.proofs.Common.{ℕ, zero, suc, ◌≡◌, ◌+◌, ◌-◌, ◌<◌, ◌≤◌, ◌==◌, true, false, List, [], ◌∷◌, ◌++◌, Some, None, length, drop, arith, cond, not, length-drop}
use Rattle.std.specs.List.{position, position_or_len}
use Rattle.std.proofs.lemmas.Bool.Decides.{nat_tests}

abbrev pub feed : List ℕ → ℕ
feed bytes = position_or_len (λ b. b == 10) bytes

pub feed-within : (xs : List ℕ) → feed xs ≤ length xs
feed-within [] = omega arith
feed-within (x ∷ xs) =
    elim (x == 10) as (λ t. cond (not t) (1 + feed xs) 0 ≤ length (x ∷ xs))
    [ true ↦ omega arith | false ↦ omega (arith, feed-within xs) ]

pub feed-grows : (xs ys : List ℕ) → feed xs ≤ feed (xs ++ ys)
feed-grows [] ys = omega arith
feed-grows (x ∷ xs) ys =
    elim (x == 10) as (λ t. cond (not t) (1 + feed xs) 0 ≤ cond (not t) (1 + feed (xs ++ ys)) 0)
    [ true ↦ omega arith | false ↦ omega (arith, feed-grows xs ys) ]

pub feed-drop-grows : (xs ys : List ℕ) (n : ℕ) → feed (drop n xs) ≤ feed (drop n (xs ++ ys))
feed-drop-grows xs ys zero = feed-grows xs ys
feed-drop-grows [] ys (suc n) = omega arith
feed-drop-grows (x ∷ xs) ys (suc n) = feed-drop-grows xs ys n

feed-drop : (xs : List ℕ) (n : ℕ) → n ≤ length xs → n ≤ feed xs → feed xs ≡ n + feed (drop n xs)
feed-drop xs zero h k = omega arith
feed-drop [] (suc n) h k = absurd (omega arith)
feed-drop (x ∷ xs) (suc n) h k =
    (elim (x == 10) as (λ t. suc n ≤ cond (not t) (1 + feed xs) 0 → cond (not t) (1 + feed xs) 0 ≡ suc n + feed (drop n xs))
    [ true ↦ λ m. absurd (omega arith) | false ↦ λ m. omega (arith, feed-drop xs n (omega arith) (omega arith)) ]) k

-- the search may begin where it ended before
pub feed_from : (bytes : List ℕ) (start searched : ℕ) → start ≤ searched → searched ≤ length bytes
    → searched ≤ start + feed (drop start bytes) → start + feed (drop start bytes) ≡ searched + feed (drop searched bytes)
feed_from bytes zero searched a b c = omega (arith, feed-drop bytes searched b (omega arith))
feed_from [] (suc start) searched a b c = absurd (omega arith)
feed_from (x ∷ xs) (suc start) zero a b c = absurd (omega arith)
feed_from (x ∷ xs) (suc start) (suc searched) a b c =
    omega (arith, feed_from xs start searched (omega arith) (omega arith) (omega arith))

pub none-found : (xs : List ℕ) → None ≡ position (λ b. b == 10) xs → feed xs ≡ length xs
none-found xs h = let k = feed-within xs in grind (arith, nat_tests)

pub some-found : (xs : List ℕ) (i : ℕ) → Some i ≡ position (λ b. b == 10) xs → (i ≡ feed xs) × (i < length xs)
some-found xs i h = (grind (arith, nat_tests), grind (arith, nat_tests))

pub found-none : (xs : List ℕ) → feed xs ≡ length xs → None ≡ position (λ b. b == 10) xs
found-none xs h = grind (arith, nat_tests)

pub found-some : (xs : List ℕ) (i : ℕ) → i ≡ feed xs → i < length xs → Some i ≡ position (λ b. b == 10) xs
found-some xs i h k = grind (arith, nat_tests)

-- what a search from there says of the whole
pub all_clear : (bytes : List ℕ) (start searched : ℕ) → start ≤ searched → searched ≤ length bytes
    → searched ≤ start + feed (drop start bytes) → None ≡ position (λ b. b == 10) (drop searched bytes)
    → length bytes ≡ start + feed (drop start bytes)
all_clear bytes start searched a b c h =
    omega (arith, feed_from bytes start searched a b c, none-found (drop searched bytes) h, length-drop searched bytes)

pub none_on : (bytes : List ℕ) (start searched : ℕ) → start ≤ searched → searched ≤ length bytes
    → searched ≤ start + feed (drop start bytes) → None ≡ position (λ b. b == 10) (drop searched bytes)
    → None ≡ position (λ b. b == 10) (drop start bytes)
none_on bytes start searched a b c h =
    found-none (drop start bytes) (omega (arith, all_clear bytes start searched a b c h, length-drop start bytes))

pub some_on : (bytes : List ℕ) (start searched i : ℕ) → start ≤ searched → searched ≤ length bytes
    → searched ≤ start + feed (drop start bytes) → Some i ≡ position (λ b. b == 10) (drop searched bytes)
    → Some (searched - start + i) ≡ position (λ b. b == 10) (drop start bytes)
some_on bytes start searched i a b c h =
    let found = some-found (drop searched bytes) i h in
    let from = feed_from bytes start searched a b c in
    found-some (drop start bytes) _ (omega (arith, found.0))
    (omega (arith, found.0, found.1, length-drop searched bytes, length-drop start bytes))
