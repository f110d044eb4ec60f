-- The order of timestamps, and replies on one key.
use Rattle.std.proofs.Common.{◌≡◌, ℕ, Bool, true, false, Option, Some, None, refl, sym, ap, true≢false, arith}
use Rattle.std.specs.Prelude.{◌==◌, ◌&&◌, ◌||◌, nat_lt, bytes_eq, List}
use Rattle.std.proofs.lemmas.Bool.Decides.{nat_tests}
use Rattle.std.proofs.lemmas.Slice.Eq.{bytes_eq-Decides}
use Rattle.zs_wire.specs.declared.origin.Timestamp.{Timestamp}
use Rattle.zs_sample.specs.Reply.{Replied}
use Rattle.zs_query.specs.Marks.{key_of, is_below}
use Rattle.zs_query.specs.Kept.{same_key}

-- a pair of numbers is before another
abbrev before : ℕ → ℕ → ℕ → ℕ → Bool
before t i u j = nat_lt t u || ((t == u) && nat_lt i j)

before_same : (t i : ℕ) → before t i t i ≡ false
before_same t i = grind (arith, nat_tests)

before_through : (t i u j v k : ℕ) → before t i u j ≡ false → before u j v k ≡ false → before t i v k ≡ false
before_through t i u j v k a b = grind (arith, nat_tests, a, b)

before_once : (t i u j : ℕ) → before t i u j ≡ true → before u j t i ≡ false
before_once t i u j a = grind (arith, nat_tests, a)

-- no timestamp is below itself
pub below_same : (a : Option Timestamp) → is_below a a ≡ false
below_same None = refl
below_same (Some a) = before_same a.time a.id

-- what is not below one that is not below a third is not below the third
pub below_through : (a b c : Option Timestamp) → is_below a b ≡ false → is_below b c ≡ false → is_below a c ≡ false
below_through None None c p q = q
below_through None (Some b) c p q = absurd (true≢false p)
below_through (Some a) b None p q = refl
below_through (Some a) None (Some c) p q = absurd (true≢false q)
below_through (Some a) (Some b) (Some c) p q = before_through a.time a.id b.time b.id c.time c.id p q

-- of two timestamps at most one is below the other
pub below_once : (a b : Option Timestamp) → is_below a b ≡ true → is_below b a ≡ false
below_once None None p = refl
below_once None (Some b) p = refl
below_once (Some a) None p = absurd (true≢false (sym p))
below_once (Some a) (Some b) p = before_once a.time a.id b.time b.id p

-- a reply is on its own key
pub key_same : (a : Replied) → same_key a a ≡ true
key_same a = (bytes_eq-Decides (key_of a) (key_of a)).1 refl

-- replies on one key have it
pub keys_equal : (a b : Replied) → same_key a b ≡ true → key_of a ≡ key_of b
keys_equal a b is = (bytes_eq-Decides (key_of a) (key_of b)).0 is

-- and those that have one key are on it
pub equal_keys : (a b : Replied) → key_of a ≡ key_of b → same_key a b ≡ true
equal_keys a b is = (bytes_eq-Decides (key_of a) (key_of b)).1 is

-- whether replies are on one key sees the keys alone
pub same_by_left : (a b c : Replied) → key_of a ≡ key_of b → same_key a c ≡ same_key b c
same_by_left a b c is = ap (λ (k : List ℕ). bytes_eq k (key_of c)) is

pub same_by_right : (a b c : Replied) → key_of b ≡ key_of c → same_key a b ≡ same_key a c
same_by_right a b c is = ap (bytes_eq (key_of a)) is
