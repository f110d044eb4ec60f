-- What an ordered set's calls make of the marks of an index.
use Rattle.std.proofs.Common.{◌≡◌, ℕ, ◌<◌, ◌≤◌, Bool, true, false, cond, List, [], ◌∷◌, Option, Some, None, refl, sym, ap, ◌∙◌, subst, arith}
use Rattle.std.specs.Prelude.{slice_get, ◌==◌, ◌&&◌, ◌||◌, nat_lt, nat_le, not, filter, IfSome, MatchOption, if◌then◌else◌}
use Rattle.std.specs.List.{list_any, All, AllByRecursion}
use Rattle.std.specs.declared.cmp.Ordering.{Ordering}
use Rattle.std.specs.Ordering.{nat_cmp, is_eq, is_gt, ordering_then}
use Rattle.std.specs.BTreeMap.{is_at}
use Rattle.std.specs.BTreeMap.Range.{range_contains}
use Rattle.std.specs.List.Sorted.{IsStrictlySortedBy}
use Rattle.std.specs.declared.cmp.Ordering.TheVariants.{Less}
use Rattle.std.specs.declared.ops.Bound.TheVariants.{Included, Excluded, Unbounded}
use Rattle.std.proofs.lemmas.Map.Keys.{sorted_head, sorted_tail}
use Rattle.std.proofs.lemmas.Bool.Decides.{nat_tests}
use Rattle.std.proofs.lemmas.List.Elements.{recursion_from_All}
use Rattle.zs_rows.specs.declared.mark.Mark.{Mark}
use Rattle.zs_rows.specs.Ascending.{Ascend}
use Rattle.zs_rows.specs.Numbers.{is_in}
use Rattle.zs_rows.specs.Index.{is_mark, is_marked, is_marked_up_to, names, under, Notes, Forgets}
use Rattle.zs_rows.specs.Rows.{first_of}
use Rattle.zs_rows.proofs.Ascending.{all_weaker}

-- marks compare by their keys, and then by their numbers
abbrev pub by_parts : Mark → Mark → Ordering
by_parts a b = ordering_then (nat_cmp a.key b.key) (nat_cmp a.number b.number)

pub tells : (a b : Mark) → is_eq (by_parts a b) ≡ is_mark a.key a.number b
tells a b = grind (arith, nat_tests)

pub marked : (m : Mark) (marks : List Mark) → list_any (is_at (by_parts m)) marks ≡ is_marked m.key m.number marks
marked m [] = refl
marked m (x ∷ marks) = rw (tells m x, marked m marks) refl

pub noted : (key number : ℕ) (before after : List Mark) → ((q : Mark) → list_any (is_at (by_parts q)) after ≡ cond (is_at (by_parts (record { key = key; number = number })) q) true (list_any (is_at (by_parts q)) before)) → Notes (Some key) number before after
noted key number before after says k n =
    let q : Mark = record { key = k; number = n } in
    sym (marked q after) ∙ says q ∙ rw (tells (record { key = key; number = number }) q, marked q before) (go (k == key) refl (n == number) refl)
  where
    go : (b : Bool) → (k == key) ≡ b → (d : Bool) → (n == number) ≡ d → cond ((k == key) && (n == number)) true (is_marked k n before) ≡ ((names k (Some key) && (n == number)) || is_marked k n before)
    go b is d there = grind (arith, nat_tests)

pub forgotten : (key number : ℕ) (before after : List Mark) → ((q : Mark) → list_any (is_at (by_parts q)) after ≡ cond (is_at (by_parts (record { key = key; number = number })) q) false (list_any (is_at (by_parts q)) before)) → Forgets (Some key) number before after
forgotten key number before after says k n =
    let q : Mark = record { key = k; number = n } in
    sym (marked q after) ∙ says q ∙ rw (tells (record { key = key; number = number }) q, marked q before) (go (k == key) refl (n == number) refl)
  where
    go : (b : Bool) → (k == key) ≡ b → (d : Bool) → (n == number) ≡ d → cond ((k == key) && (n == number)) false (is_marked k n before) ≡ (not (names k (Some key) && (n == number)) && is_marked k n before)
    go b is d there = grind (arith, nat_tests)

-- no mark under a key stands behind one under a greater key
none_under : (key : ℕ) (m : Mark) (marks : List Mark) → key < m.key → AllByRecursion (λ x. by_parts m x ≡ Less) marks → under key marks ≡ []
none_under key m [] lt all = refl
none_under key m (x ∷ marks) lt all = grind (arith, nat_tests, lt, all.0, none_under key m marks lt all.1)

-- the number of a mark, if it stands under the key
abbrev pub number_if : ℕ → Option Mark → Option ℕ
number_if key None = None
number_if key (Some m) = if m.key == key then Some m.number else None

-- the marks from the first one that may stand under a key on
abbrev pub from_key : ℕ → List Mark → List Mark
from_key key marks = filter (range_contains by_parts (Included (record { key = key; number = 0 })) Unbounded) marks

-- what the first of these says of the numbers under the key
pub first_under : (key : ℕ) (marks : List Mark) → IsStrictlySortedBy by_parts marks → number_if key (first_of (from_key key marks)) ≡ first_of (under key marks)
first_under key [] sorted = refl
first_under key (x ∷ marks) sorted =
    go (first_under key marks (sorted_tail by_parts x marks sorted)) (none_under key x marks) (sorted_head by_parts x marks sorted) (nat_lt x.key key) refl (x.key == key) refl
  where
    go : number_if key (first_of (from_key key marks)) ≡ first_of (under key marks) → (key < x.key → AllByRecursion (λ y. by_parts x y ≡ Less) marks → under key marks ≡ []) → AllByRecursion (λ y. by_parts x y ≡ Less) marks → (b : Bool) → nat_lt x.key key ≡ b → (d : Bool) → (x.key == key) ≡ d → number_if key (first_of (from_key key (x ∷ marks))) ≡ first_of (under key (x ∷ marks))
    go more none above true low d is = grind (arith, nat_tests, low, more)
    go more none above false low true is = grind (arith, nat_tests, low, is)
    go more none above false low false is = let empty = none (over low is) above in grind (arith, nat_tests, low, is, empty)
      where
        over : nat_lt x.key key ≡ false → (x.key == key) ≡ false → key < x.key
        over p q = grind (arith, nat_tests, p, q)

-- what the first of the numbers under a key says of all
pub under_found : (key : ℕ) (marks : List Mark) → MatchOption (first_of (under key marks)) ((n : ℕ) → is_marked key n marks ≡ false) (λ n. is_marked key n marks ≡ true)
under_found key [] = λ n. refl
under_found key (x ∷ marks) = go (under_found key marks) (first_of (under key marks)) refl (x.key == key) refl
  where
    go : MatchOption (first_of (under key marks)) ((n : ℕ) → is_marked key n marks ≡ false) (λ n. is_marked key n marks ≡ true) → (r : Option ℕ) → first_of (under key marks) ≡ r → (b : Bool) → (x.key == key) ≡ b → MatchOption (first_of (under key (x ∷ marks))) ((n : ℕ) → is_marked key n (x ∷ marks) ≡ false) (λ n. is_marked key n (x ∷ marks) ≡ true)
    go more r first true is = rw is (grind (arith, nat_tests))
    go more None first false is = rw (is, first) (λ n. (rw first at more) n)
    go more (Some m) first false is = rw (is, first) (rw first at more)

-- no mark up to a key stands behind one above it
pub none_up_to : (end n : ℕ) (m : Mark) (marks : List Mark) → end < m.key → AllByRecursion (λ x. is_gt (by_parts m x) ≡ false) marks → is_marked_up_to end n marks ≡ false
none_up_to end n m [] lt all = refl
none_up_to end n m (x ∷ marks) lt all = grind (arith, nat_tests, lt, all.0, none_up_to end n m marks lt all.1)

-- the same of a list in order
pub none_behind : (end n : ℕ) (m : Mark) (marks : List Mark) → end < m.key → IsStrictlySortedBy by_parts (m ∷ marks) → is_marked_up_to end n (m ∷ marks) ≡ false
none_behind end n m marks lt sorted = grind (arith, nat_tests, lt, none_up_to end n m marks lt (all_weaker (λ x. by_parts m x ≡ Less) (λ x. is_gt (by_parts m x) ≡ false) (λ x less. ap is_gt less) marks (sorted_head by_parts m marks sorted)))

-- the first mark, where its key is not above the end
pub up_to_found : (end : ℕ) (m : Mark) (marks : List Mark) → slice_get marks 0 ≡ Some m → All (λ x. is_gt (by_parts m x) ≡ false) marks → MatchOption (if nat_le m.key end then Some m else None) ((n : ℕ) → is_marked_up_to end n marks ≡ false) (λ x. (x.key ≤ end) × (first_of marks ≡ Some x))
up_to_found end m marks first all = go (nat_le m.key end) refl
  where
    first_is : (xs : List Mark) → slice_get xs 0 ≡ Some m → first_of xs ≡ Some m
    first_is [] is = cc
    first_is (x ∷ xs) is = is

    go : (b : Bool) → nat_le m.key end ≡ b → MatchOption (if nat_le m.key end then Some m else None) ((n : ℕ) → is_marked_up_to end n marks ≡ false) (λ x. (x.key ≤ end) × (first_of marks ≡ Some x))
    go true is = rw is (grind (arith, nat_tests, is), first_is marks first)
    go false is = rw is (λ n. none_up_to end n m marks (grind (arith, nat_tests, is)) (recursion_from_All _ marks all))

-- a walk over the marks ends at the first above the end
pub walk_ends : (end n : ℕ) (m : Mark) (rest left : List Mark) (numbers : List ℕ) (all : Bool) → left ≡ m ∷ rest → IsStrictlySortedBy by_parts left → end < m.key → (is_in n numbers || is_marked_up_to end n left) ≡ all → is_in n numbers ≡ all
walk_ends end n m rest left numbers all is sorted lt so_far =
    let none : is_marked_up_to end n left ≡ false = rw is (none_behind end n m rest lt (subst (IsStrictlySortedBy by_parts) is sorted)) in
    or_false (is_in n numbers) ∙ (ap (λ b. is_in n numbers || b) (sym none) ∙ so_far)
  where
    or_false : (b : Bool) → b ≡ (b || false)
    or_false true = refl
    or_false false = refl

-- and goes on with each below it
pub walk_more : (end n : ℕ) (m : Mark) (rest left : List Mark) (numbers more : List ℕ) (all : Bool) → left ≡ m ∷ rest → m.key ≤ end → is_in n more ≡ ((n == m.number) || is_in n numbers) → (is_in n numbers || is_marked_up_to end n left) ≡ all → (is_in n more || is_marked_up_to end n rest) ≡ all
walk_more end n m rest left numbers more all is le joins so_far =
    rw joins (go (n == m.number) refl ∙ (ap (λ marks. is_in n numbers || is_marked_up_to end n marks) (sym is) ∙ so_far))
  where
    below : nat_le m.key end ≡ true
    below = grind (arith, nat_tests, le)

    go : (b : Bool) → (n == m.number) ≡ b → (((n == m.number) || is_in n numbers) || is_marked_up_to end n rest) ≡ (is_in n numbers || is_marked_up_to end n (m ∷ rest))
    go true same = grind (arith, nat_tests, same, below)
    go false apart = grind (arith, nat_tests, apart, below)

pub walk_sorted : (m : Mark) (rest left : List Mark) → left ≡ m ∷ rest → IsStrictlySortedBy by_parts left → IsStrictlySortedBy by_parts rest
walk_sorted m rest left is sorted = sorted_tail by_parts m rest (subst (IsStrictlySortedBy by_parts) is sorted)

-- the marks behind that of a number under a key
abbrev pub from_mark : ℕ → ℕ → List Mark → List Mark
from_mark key after marks = filter (range_contains by_parts (Excluded (record { key = key; number = after })) Unbounded) marks

-- what the first of these says of the numbers under the key
pub next_under : (key after : ℕ) (marks : List Mark) → IsStrictlySortedBy by_parts marks → number_if key (first_of (from_mark key after marks)) ≡ first_of (filter (λ n. nat_lt after n) (under key marks))
next_under key after [] sorted = refl
next_under key after (x ∷ marks) sorted =
    go (next_under key after marks (sorted_tail by_parts x marks sorted)) (none_under key x marks) (sorted_head by_parts x marks sorted) (nat_lt x.key key) refl (x.key == key) refl (nat_lt after x.number) refl
  where
    go : number_if key (first_of (from_mark key after marks)) ≡ first_of (filter (λ n. nat_lt after n) (under key marks)) → (key < x.key → AllByRecursion (λ y. by_parts x y ≡ Less) marks → under key marks ≡ []) → AllByRecursion (λ y. by_parts x y ≡ Less) marks → (b : Bool) → nat_lt x.key key ≡ b → (d : Bool) → (x.key == key) ≡ d → (a : Bool) → nat_lt after x.number ≡ a → number_if key (first_of (from_mark key after (x ∷ marks))) ≡ first_of (filter (λ n. nat_lt after n) (under key (x ∷ marks)))
    go more none above true low d is a over = grind (arith, nat_tests, low, more)
    go more none above false low true is true over = grind (arith, nat_tests, low, is, over)
    go more none above false low true is false over = grind (arith, nat_tests, low, is, over, more)
    go more none above false low false is a over = let empty = none (beyond low is) above in grind (arith, nat_tests, low, is, empty)
      where
        beyond : nat_lt x.key key ≡ false → (x.key == key) ≡ false → key < x.key
        beyond p q = grind (arith, nat_tests, p, q)

-- what the first number behind one under a key says of all
pub next_found : (key after : ℕ) (marks : List Mark) → MatchOption (first_of (filter (λ n. nat_lt after n) (under key marks))) ((n : ℕ) → after < n → is_marked key n marks ≡ false) (λ n. (after < n) × (is_marked key n marks ≡ true))
next_found key after [] = λ n over. refl
next_found key after (x ∷ marks) = go (next_found key after marks) (first_of (filter (λ n. nat_lt after n) (under key marks))) refl (x.key == key) refl (nat_lt after x.number) refl
  where
    or_true : (a b : Bool) → b ≡ true → (a || b) ≡ true
    or_true true b is = refl
    or_true false b is = is

    go : MatchOption (first_of (filter (λ n. nat_lt after n) (under key marks))) ((n : ℕ) → after < n → is_marked key n marks ≡ false) (λ n. (after < n) × (is_marked key n marks ≡ true)) → (r : Option ℕ) → first_of (filter (λ n. nat_lt after n) (under key marks)) ≡ r → (b : Bool) → (x.key == key) ≡ b → (a : Bool) → nat_lt after x.number ≡ a → MatchOption (first_of (filter (λ n. nat_lt after n) (under key (x ∷ marks)))) ((n : ℕ) → after < n → is_marked key n (x ∷ marks) ≡ false) (λ n. (after < n) × (is_marked key n (x ∷ marks) ≡ true))
    go more r first true is true over = rw (is, over) (grind (arith, nat_tests, over), grind (arith, nat_tests))
    go more None first true is false over = rw (is, over, first) (λ n lt. both n lt ((rw first at more) n lt))
      where
        both : (n : ℕ) → after < n → is_marked key n marks ≡ false → ((x.number == n) || is_marked key n marks) ≡ false
        both n lt none = grind (arith, nat_tests, over, lt, none)
    go more (Some m) first true is false over = rw (is, over, first) ((rw first at more).0, or_true (x.number == m) (is_marked key m marks) (rw first at more).1)
    go more None first false is a over = rw (is, first) (λ n lt. (rw first at more) n lt)
    go more (Some m) first false is a over = rw (is, first) (rw first at more)

-- the first of the numbers under a key is the least
none_less : (key n : ℕ) (x : Mark) (marks : List Mark) → x.key ≡ key → AllByRecursion (λ y. by_parts x y ≡ Less) marks → is_marked key n marks ≡ true → x.number ≤ n
none_less key n x [] same all is = absurd (false_true is)
  where
    false_true : false ≡ true → ⊥
    false_true e = cc
none_less key n x (y ∷ marks) same all is = go (is_mark key n y) refl (none_less key n x marks same all.1)
  where
    go : (b : Bool) → is_mark key n y ≡ b → (is_marked key n marks ≡ true → x.number ≤ n) → x.number ≤ n
    go true here more = at_least (y.key == key) refl (y.number == n) refl
      where
        at_least : (c : Bool) → (y.key == key) ≡ c → (d : Bool) → (y.number == n) ≡ d → x.number ≤ n
        at_least true k true m = grind (arith, nat_tests, same, k, m, all.0)
        at_least true k false m = absurd (no (sym here ∙ (λ i. k i && m i)))
          where
            no : true ≡ false → ⊥
            no e = cc
        at_least false k d m = absurd (no (sym here ∙ (λ i. k i && m i)))
          where
            no : true ≡ false → ⊥
            no e = cc
    go false apart more = more (sym (ap (λ b. b || is_marked key n marks) apart) ∙ is)

pub under_least : (key : ℕ) (marks : List Mark) → IsStrictlySortedBy by_parts marks → IfSome (first_of (under key marks)) (λ n. (m : ℕ) → is_marked key m marks ≡ true → n ≤ m)
under_least key [] sorted = tt
under_least key (x ∷ marks) sorted = go (under_least key marks (sorted_tail by_parts x marks sorted)) (sorted_head by_parts x marks sorted) (x.key == key) refl
  where
    go : IfSome (first_of (under key marks)) (λ n. (m : ℕ) → is_marked key m marks ≡ true → n ≤ m) → AllByRecursion (λ y. by_parts x y ≡ Less) marks → (b : Bool) → (x.key == key) ≡ b → IfSome (first_of (under key (x ∷ marks))) (λ n. (m : ℕ) → is_marked key m (x ∷ marks) ≡ true → n ≤ m)
    go more above true is = rw is (λ m marked. first m (x.number == m) refl marked)
      where
        key_is : x.key ≡ key
        key_is = grind (arith, nat_tests, is)

        first : (m : ℕ) → (c : Bool) → (x.number == m) ≡ c → ((true && (x.number == m)) || is_marked key m marks) ≡ true → x.number ≤ m
        first m true same marked = grind (arith, nat_tests, same)
        first m false apart marked = none_less key m x marks key_is above (sym (ap (λ b. (true && b) || is_marked key m marks) apart) ∙ marked)
    go more above false is = rw is more

-- the numbers under a key ascend
all_over : (key : ℕ) (x : Mark) (marks : List Mark) → x.key ≡ key → AllByRecursion (λ y. by_parts x y ≡ Less) marks → AllByRecursion (λ n. x.number < n) (under key marks)
all_over key x [] same all = tt
all_over key x (y ∷ marks) same all = go (y.key == key) refl (all_over key x marks same all.1)
  where
    go : (b : Bool) → (y.key == key) ≡ b → AllByRecursion (λ n. x.number < n) (under key marks) → AllByRecursion (λ n. x.number < n) (under key (y ∷ marks))
    go true is more = rw is (grind (arith, nat_tests, same, is, all.0), more)
    go false is more = rw is more

pub under_ascends : (key : ℕ) (marks : List Mark) → IsStrictlySortedBy by_parts marks → Ascend (λ n. n) (under key marks)
under_ascends key [] sorted = tt
under_ascends key (x ∷ marks) sorted = go (x.key == key) refl (under_ascends key marks (sorted_tail by_parts x marks sorted))
  where
    key_is : (x.key == key) ≡ true → x.key ≡ key
    key_is is = grind (arith, nat_tests, is)

    go : (b : Bool) → (x.key == key) ≡ b → Ascend (λ n. n) (under key marks) → Ascend (λ n. n) (under key (x ∷ marks))
    go true is more = rw is (all_over key x marks (key_is is) (sorted_head by_parts x marks sorted), more)
    go false is more = rw is more

-- a number is under a key where it has a mark there
pub in_under : (key n : ℕ) (marks : List Mark) → is_in n (under key marks) ≡ is_marked key n marks
in_under key n [] = refl
in_under key n (x ∷ marks) = go (x.key == key) refl (in_under key n marks)
  where
    go : (b : Bool) → (x.key == key) ≡ b → is_in n (under key marks) ≡ is_marked key n marks → is_in n (under key (x ∷ marks)) ≡ is_marked key n (x ∷ marks)
    go true is more = rw (is, more) refl
    go false is more = rw (is, more) refl
