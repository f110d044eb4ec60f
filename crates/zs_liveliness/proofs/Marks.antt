-- A number in an index that moves from one key to another.
use Rattle.std.proofs.Common.{◌≡◌, ℕ, Bool, true, false, List, Option, Some, None, refl, sym, ap, ◌∙◌, subst, true≢false, arith}
use Rattle.std.specs.Prelude.{◌==◌, ◌&&◌, ◌||◌, not, if◌then◌else◌}
use Rattle.std.proofs.lemmas.Bool.Decides.{nat_tests}
use Rattle.zs_rows.specs.Index.{is_marked, names, row_names, Notes, Forgets, IsSame, IsIndexOf}
use Rattle.zs_rows.specs.declared.mark.Mark.{Mark}
use Rattle.zs_rows.specs.Rows.{row_at, Updates}
use Rattle.zs_liveliness.specs.Asking.{is_same_key, StandsUnder, MovesTo, LeavesFor}

-- keys that are the same
pub keys_same : (a b : Option ℕ) → is_same_key a b ≡ true → a ≡ b
keys_same None None same = refl
keys_same None (Some b) same = absurd (true≢false (sym same))
keys_same (Some a) None same = absurd (true≢false (sym same))
keys_same (Some a) (Some b) same = let is : a ≡ b = grind (arith, nat_tests, same) in ap Some is

-- keys that are not: no key is both
pub keys_apart : (a b : Option ℕ) → is_same_key a b ≡ false → (k : ℕ) → (names k a && names k b) ≡ false
keys_apart None b apart k = refl
keys_apart (Some a) None apart k = none (a == k)
  where
    none : (c : Bool) → (c && false) ≡ false
    none true = refl
    none false = refl
keys_apart (Some a) (Some b) apart k = grind (arith, nat_tests, apart)

number_is : (n m : ℕ) → (n == m) ≡ true → n ≡ m
number_is n m same = grind (arith, nat_tests, same)

-- a number that stands under a key has come under it
pub stands_noted : (was is : Option ℕ) (number : ℕ) (marks : List Mark) → StandsUnder was number marks → was ≡ is → Notes is number marks marks
stands_noted was is number marks stands same k n = go (n == number) refl
  where
    twice : (a : Bool) → a ≡ ((a && true) || a)
    twice true = refl
    twice false = refl

    none : (a b : Bool) → b ≡ ((a && false) || b)
    none true b = refl
    none false b = refl

    go : (c : Bool) → (n == number) ≡ c → is_marked k n marks ≡ ((names k is && (n == number)) || is_marked k n marks)
    go true here =
        let there : is_marked k n marks ≡ names k is = ap (λ (m : ℕ). is_marked k m marks) (number_is n number here) ∙ (stands k ∙ ap (names k) same) in
        rw (here, there) (twice (names k is))
    go false apart = rw apart (none (names k is) (is_marked k n marks))

-- one that is kept leaves nothing
pub leaves_same : (gone kept : Option ℕ) (number : ℕ) (marks : List Mark) → gone ≡ kept → LeavesFor gone kept number marks marks
leaves_same gone kept number marks same k n = subst (λ (o : Option ℕ). is_marked k n marks ≡ (not (names k gone && not (names k o) && (n == number)) && is_marked k n marks)) same (all (names k gone) (n == number) (is_marked k n marks))
  where
    all : (a c m : Bool) → m ≡ (not (a && not a && c) && m)
    all true true m = refl
    all true false m = refl
    all false true m = refl
    all false false m = refl

-- one that is forgotten leaves its key
pub leaves_other : (gone kept : Option ℕ) (number : ℕ) (before after : List Mark) → ((k : ℕ) → (names k gone && names k kept) ≡ false) → Forgets gone number before after → LeavesFor gone kept number before after
leaves_other gone kept number before after apart forgets k n = forgets k n ∙ ap (λ (b : Bool). not b && is_marked k n before) (same (names k gone) (names k kept) (n == number) (apart k))
  where
    same : (a b c : Bool) → (a && b) ≡ false → (a && c) ≡ (a && not b && c)
    same true true c clash = absurd (true≢false clash)
    same true false c clash = refl
    same false b c clash = refl

-- under another key, and then not under the old one
pub moved : (was is : Option ℕ) (number : ℕ) (old between new : List Mark) → StandsUnder was number old → Notes is number old between → LeavesFor was is number between new → MovesTo is number old new
moved was is number old between new stands notes leaves k n = leaves k n ∙ rw (notes k n) (go (n == number) refl)
  where
    here : (a b : Bool) → (not (a && not b && true) && ((b && true) || a)) ≡ b
    here true true = refl
    here true false = refl
    here false true = refl
    here false false = refl

    elsewhere : (a b m : Bool) → (not (a && not b && false) && ((b && false) || m)) ≡ m
    elsewhere true true m = refl
    elsewhere true false m = refl
    elsewhere false true m = refl
    elsewhere false false m = refl

    go : (c : Bool) → (n == number) ≡ c → (not (names k was && not (names k is) && (n == number)) && ((names k is && (n == number)) || is_marked k n old)) ≡ (if n == number then names k is else is_marked k n old)
    go true same =
        let there : is_marked k n old ≡ names k was = ap (λ (m : ℕ). is_marked k m old) (number_is n number same) ∙ stands k in
        rw (same, there) (here (names k was) (names k is))
    go false apart = rw apart (elsewhere (names k was) (names k is) (is_marked k n old))

-- under another key, and not under it again
pub moved_back : (was is : Option ℕ) (number : ℕ) (old between new : List Mark) → StandsUnder was number old → Notes is number old between → LeavesFor is was number between new → IsSame old new
moved_back was is number old between new stands notes leaves k n = leaves k n ∙ rw (notes k n) (go (n == number) refl)
  where
    here : (a b : Bool) → (not (b && not a && true) && ((b && true) || a)) ≡ a
    here true true = refl
    here true false = refl
    here false true = refl
    here false false = refl

    elsewhere : (a b m : Bool) → (not (b && not a && false) && ((b && false) || m)) ≡ m
    elsewhere true true m = refl
    elsewhere true false m = refl
    elsewhere false true m = refl
    elsewhere false false m = refl

    go : (c : Bool) → (n == number) ≡ c → (not (names k is && not (names k was) && (n == number)) && ((names k is && (n == number)) || is_marked k n old)) ≡ is_marked k n old
    go true same =
        let there : is_marked k n old ≡ names k was = ap (λ (m : ℕ). is_marked k m old) (number_is n number same) ∙ stands k in
        rw (same, there) (here (names k was) (names k is))
    go false apart = rw apart (elsewhere (names k was) (names k is) (is_marked k n old))

-- an index of rows of which one was written over
pub index_moved : {X : Type 0} (key_of : X → Option ℕ) (n : ℕ) (y : X) (rows rows' : List (ℕ × X)) (marks marks' : List Mark) → IsIndexOf key_of rows marks → Updates n (Some y) rows rows' → MovesTo (key_of y) n marks marks' → IsIndexOf key_of rows' marks'
index_moved {X} key_of n y rows rows' marks marks' is found moves k q = moves k q ∙ rw (found q, is k q) (go (n == q) refl)
  where
    go : (b : Bool) → (n == q) ≡ b → (if q == n then names k (key_of y) else row_names key_of k (row_at q rows)) ≡ row_names key_of k (if n == q then Some y else row_at q rows)
    go true same = let turned : (q == n) ≡ true = grind (arith, nat_tests, same) in rw (same, turned) refl
    go false apart = let turned : (q == n) ≡ false = grind (arith, nat_tests, apart) in rw (apart, turned) refl
