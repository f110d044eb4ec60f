-- Walks over rows under their numbers, from each that passes a test to the next, and what they have changed.
use Rattle.std.proofs.Common.{◌≡◌, ℕ, ◌<◌, ◌≤◌, Bool, true, false, List, [], ◌∷◌, length, Option, Some, None, refl, sym, ap, ◌∙◌, subst, true≢false, arith}
use Rattle.std.specs.Prelude.{◌==◌, nat_lt, filter, map, is_some, IfSome, if◌then◌else◌}
use Rattle.std.specs.List.{AllByRecursion}
use Rattle.std.specs.Option.{option_map}
use Rattle.std.proofs.lemmas.Bool.Decides.{nat_tests}
use Rattle.zs_rows.specs.Rows.{row_at, rows_of, first_of, is_behind, Updates}
use Rattle.zs_rows.proofs.Numbered.{none_found, first_found, later_found, same_rows}
use Rattle.zs_subscriptions.specs.Ascending.{Ascend}
use Rattle.zs_subscriptions.specs.NumberRows.{is_such, IsNextSuch, ChangesAt}
use Rattle.zs_rows.proofs.Ascending.{all_pass}
use Rattle.zs_rows.proofs.Ending.{all_found}
use Rattle.zs_subscriptions.proofs.Ascending.{all_weaker, all_both, all_filter, ascend_map}

-- of two numbers one is behind the last one and the other is not
behind_apart : (after : Option ℕ) (m n : ℕ) → is_behind after m ≡ false → is_behind after n ≡ true → (m == n) ≡ false
behind_apart after m n out over = go (m == n) refl
  where
    go : (b : Bool) → (m == n) ≡ b → (m == n) ≡ false
    go true same = let is : m ≡ n = grind (arith, nat_tests, same) in absurd (true≢false (sym over ∙ (sym (ap (is_behind after) is) ∙ out)))
    go false apart = apart

-- what is above a number behind the last one is behind it
behind_more : (after : Option ℕ) (n q : ℕ) → is_behind after n ≡ true → nat_lt n q ≡ true → is_behind after q ≡ true
behind_more None n q over lt = refl
behind_more (Some a) n q over lt = grind (arith, nat_tests, over, lt)

-- a number that is not above another one and is not it lies below it
below : (n q : ℕ) → nat_lt n q ≡ false → (n == q) ≡ false → q < n
below n q out apart = grind (arith, nat_tests, out, apart)

above_apart : (n q : ℕ) → nat_lt n q ≡ true → (n == q) ≡ false
above_apart n q lt = grind (arith, nat_tests, lt)

-- the first row behind the last one is found by its number, and none stands before it
pub first_is : {X : Type 0} (after : Option ℕ) (e : ℕ × X) (rows : List (ℕ × X)) → Ascend (λ (f : ℕ × X). f.0) rows → Some e ≡ first_of (filter (λ (f : ℕ × X). is_behind after f.0) rows)
    → (is_behind after e.0 ≡ true) × (row_at e.0 rows ≡ Some e.1) × ((q : ℕ) → is_behind after q ≡ true → q < e.0 → row_at q rows ≡ None)
first_is after e [] up is = absurd (cc)
first_is {X} after e (f ∷ rows) up is = go (is_behind after f.0) refl (first_is after e rows up.1)
  where
    go : (b : Bool) → is_behind after f.0 ≡ b
        → (Some e ≡ first_of (filter (λ (g : ℕ × X). is_behind after g.0) rows) → (is_behind after e.0 ≡ true) × (row_at e.0 rows ≡ Some e.1) × ((q : ℕ) → is_behind after q ≡ true → q < e.0 → row_at q rows ≡ None))
        → (is_behind after e.0 ≡ true) × (row_at e.0 (f ∷ rows) ≡ Some e.1) × ((q : ℕ) → is_behind after q ≡ true → q < e.0 → row_at q (f ∷ rows) ≡ None)
    go true over more =
        let there : Some e ≡ Some f = rw over at is in
        let same : f ≡ e = cc in
        subst (λ (g : ℕ × X). (is_behind after g.0 ≡ true) × (row_at g.0 (f ∷ rows) ≡ Some g.1) × ((q : ℕ) → is_behind after q ≡ true → q < g.0 → row_at q (f ∷ rows) ≡ None)) same
        (over, first_found f rows, λ q later lt. none_found q (f ∷ rows) (lt, all_weaker (λ (g : ℕ × X). f.0 < g.0) (λ (g : ℕ × X). q < g.0) (λ g more. omega (arith, lt, more)) rows up.0))
    go false out more =
        let rest = more (rw out at is) in
        (rest.0, later_found e.0 f rows (behind_apart after f.0 e.0 out rest.0) ∙ rest.1, λ q over lt. later_found q f rows (behind_apart after f.0 q out over) ∙ rest.2 q over lt)

-- where there is no first one, none is behind the last one
pub none_behind : {X : Type 0} (after : Option ℕ) (rows : List (ℕ × X)) → None ≡ first_of (filter (λ (f : ℕ × X). is_behind after f.0) rows) → (q : ℕ) → is_behind after q ≡ true → row_at q rows ≡ None
none_behind after [] is q over = refl
none_behind {X} after (f ∷ rows) is q over = go (is_behind after f.0) refl (none_behind after rows)
  where
    go : (b : Bool) → is_behind after f.0 ≡ b → (None ≡ first_of (filter (λ (g : ℕ × X). is_behind after g.0) rows) → (p : ℕ) → is_behind after p ≡ true → row_at p rows ≡ None) → row_at q (f ∷ rows) ≡ None
    go true there more = let some : None ≡ Some f = rw there at is in absurd (cc)
    go false out more = later_found q f rows (behind_apart after f.0 q out over) ∙ more (rw out at is) q over

-- the next number of all
pub next_of_all : {X : Type 0} (after : Option ℕ) (o : Option (ℕ × X)) (rows : List (ℕ × X)) → Ascend (λ (f : ℕ × X). f.0) rows → o ≡ first_of (filter (λ (f : ℕ × X). is_behind after f.0) rows) → IsNextSuch (λ x. true) after rows (option_map (λ e. e.0) o)
next_of_all {X} after None rows up is = λ q over. ap (is_such (λ (x : X). true)) (none_behind after rows is q over)
next_of_all {X} after (Some e) rows up is =
    let first = first_is after e rows up is in
    (first.0, ap (is_such (λ (x : X). true)) first.1, λ q over lt. ap (is_such (λ (x : X). true)) (first.2 q over lt))

-- the first of the rows that passes a test
abbrev pub first_such : {X : Type 0} → (X → Bool) → List (ℕ × X) → Option (ℕ × X)
first_such test rows = first_of (filter (λ e. test e.1) rows)

-- a look for it goes on behind one that fails, and ends at one that passes
pub such_skipped : {X : Type 0} (test : X → Bool) (e : ℕ × X) (rest rows : List (ℕ × X)) → rows ≡ e ∷ rest → test e.1 ≡ false → first_such test rest ≡ first_such test rows
such_skipped test e rest rows is fails = rw (is, fails) refl

pub such_found : {X : Type 0} (test : X → Bool) (e : ℕ × X) (rest rows : List (ℕ × X)) → rows ≡ e ∷ rest → test e.1 ≡ true → Some e ≡ first_such test rows
such_found test e rest rows is passes = rw (is, passes) refl

-- a row that fails the test may stand before the others
before_such : {X : Type 0} (test : X → Bool) (after : Option ℕ) (f : ℕ × X) (rows : List (ℕ × X)) (next : Option ℕ) → Ascend (λ (g : ℕ × X). g.0) (f ∷ rows) → ((q : ℕ) → is_behind after q ≡ true → (f.0 == q) ≡ true → test f.1 ≡ false) → IsNextSuch test after rows next → IsNextSuch test after (f ∷ rows) next
before_such {X} test after f rows None up fails none = λ q over. go q over (f.0 == q) refl
  where
    go : (q : ℕ) → is_behind after q ≡ true → (b : Bool) → (f.0 == q) ≡ b → is_such test (row_at q (f ∷ rows)) ≡ false
    go q over true here = rw here (fails q over here)
    go q over false apart = rw apart (none q over)
before_such {X} test after f rows (Some n) up fails some = (some.0, first (f.0 == n) refl, λ q over lt. go q over lt (f.0 == q) refl)
  where
    first : (b : Bool) → (f.0 == n) ≡ b → is_such test (row_at n (f ∷ rows)) ≡ true
    first true here =
        let none : row_at n rows ≡ None = none_found n rows (all_weaker (λ (g : ℕ × X). f.0 < g.0) (λ (g : ℕ × X). n < g.0) (λ g more. grind (arith, nat_tests, here, more)) rows up.0) in
        absurd (true≢false (sym some.1 ∙ ap (is_such test) none))
    first false apart = rw apart some.1

    go : (q : ℕ) → is_behind after q ≡ true → q < n → (b : Bool) → (f.0 == q) ≡ b → is_such test (row_at q (f ∷ rows)) ≡ false
    go q over lt true here = rw here (fails q over here)
    go q over lt false apart = rw apart (some.2 q over lt)

-- the first of those behind the last one that passes is the next that does
pub next_such : {X : Type 0} (test : X → Bool) (after : Option ℕ) (o : Option (ℕ × X)) (rows : List (ℕ × X)) → Ascend (λ (f : ℕ × X). f.0) rows → o ≡ first_such test (filter (λ (f : ℕ × X). is_behind after f.0) rows) → IsNextSuch test after rows (option_map (λ e. e.0) o)
next_such test after None [] up is = λ q over. refl
next_such test after (Some e) [] up is = absurd (cc)
next_such {X} test after o (f ∷ rows) up is = go (is_behind after f.0) refl (test f.1) refl (next_such test after o rows up.1)
  where
    Next : List (ℕ × X) → Type 0
    Next more = IsNextSuch test after more (option_map (λ e. e.0) o)

    go : (b : Bool) → is_behind after f.0 ≡ b → (c : Bool) → test f.1 ≡ c → (o ≡ first_such test (filter (λ (g : ℕ × X). is_behind after g.0) rows) → Next rows) → Next (f ∷ rows)
    go false out c passes more =
        before_such test after f rows (option_map (λ e. e.0) o) up (λ q over same. absurd (true≢false (sym same ∙ behind_apart after f.0 q out over))) (more (rw out at is))
    go true over false fails more = before_such test after f rows (option_map (λ e. e.0) o) up (λ q later same. fails) (more (rw (over, fails) at is))
    go true over true passes more =
        let there : o ≡ Some f = rw (over, passes) at is in
        subst (λ (p : Option (ℕ × X)). IsNextSuch test after (f ∷ rows) (option_map (λ e. e.0) p)) (sym there)
        (over, ap (is_such test) (first_found f rows) ∙ passes, λ q later lt. ap (is_such test) (none_found q (f ∷ rows) (lt, all_weaker (λ (g : ℕ × X). f.0 < g.0) (λ (g : ℕ × X). q < g.0) (λ g more. omega (arith, lt, more)) rows up.0)))

-- what holds of whichever is found behind the last one holds of each that is there
pub behind_each : {X : Type 0} (P : X → Type 0) (after : Option ℕ) (rows : List (ℕ × X)) → Ascend (λ (f : ℕ × X). f.0) rows → ((q : ℕ) → is_behind after q ≡ true → IfSome (row_at q rows) P) → AllByRecursion (λ (f : ℕ × X). P f.1) (filter (λ (f : ℕ × X). is_behind after f.0) rows)
behind_each {X} P after rows up each =
    all_both (λ (f : ℕ × X). row_at f.0 rows ≡ Some f.1) (λ (f : ℕ × X). is_behind after f.0 ≡ true) (λ (f : ℕ × X). P f.1) (λ f found over. subst (λ (o : Option X). IfSome o P) found (each f.0 over)) (filter (λ (f : ℕ × X). is_behind after f.0) rows)
    (all_filter (λ (f : ℕ × X). row_at f.0 rows ≡ Some f.1) (λ (f : ℕ × X). is_behind after f.0) rows (all_found rows up)) (all_pass (λ (f : ℕ × X). is_behind after f.0) rows)

-- how many rows are behind the last one
abbrev pub behind_count : {X : Type 0} → Option ℕ → List (ℕ × X) → ℕ
behind_count after rows = length (filter (λ e. is_behind after e.0) rows)

-- behind a number that is behind the last one are no more
fewer_behind : {X : Type 0} (after : Option ℕ) (n : ℕ) (rows : List (ℕ × X)) → is_behind after n ≡ true → behind_count (Some n) rows ≤ behind_count after rows
fewer_behind after n [] over = omega arith
fewer_behind {X} after n (e ∷ rows) over = go (nat_lt n e.0) refl (is_behind after e.0) refl (fewer_behind after n rows over)
  where
    go : (b : Bool) → nat_lt n e.0 ≡ b → (c : Bool) → is_behind after e.0 ≡ c → behind_count (Some n) rows ≤ behind_count after rows → behind_count (Some n) (e ∷ rows) ≤ behind_count after (e ∷ rows)
    go true far c near more = let there = behind_more after n e.0 over far in rw (far, there) (omega (arith, more))
    go false far true near more = rw (far, near) (omega (arith, more))
    go false far false near more = rw (far, near) more

-- and where it has a row, fewer
less_behind : {X : Type 0} (after : Option ℕ) (n : ℕ) (rows : List (ℕ × X)) → is_behind after n ≡ true → is_some (row_at n rows) ≡ true → behind_count (Some n) rows < behind_count after rows
less_behind after n [] over there = absurd (true≢false (sym there))
less_behind {X} after n (e ∷ rows) over there = go (e.0 == n) refl (nat_lt n e.0) refl (is_behind after e.0) refl (less_behind after n rows over)
  where
    go : (a : Bool) → (e.0 == n) ≡ a → (b : Bool) → nat_lt n e.0 ≡ b → (c : Bool) → is_behind after e.0 ≡ c → (is_some (row_at n rows) ≡ true → behind_count (Some n) rows < behind_count after rows) → behind_count (Some n) (e ∷ rows) < behind_count after (e ∷ rows)
    go true here b far c near more =
        let out : nat_lt n e.0 ≡ false = grind (arith, nat_tests, here) in
        let number : e.0 ≡ n = grind (arith, nat_tests, here) in
        let before : is_behind after e.0 ≡ true = ap (is_behind after) number ∙ over in
        let rest = fewer_behind after n rows over in
        rw (out, before) (omega (arith, rest))
    go false apart true far c near more =
        let before = behind_more after n e.0 over far in
        let rest = more (rw apart at there) in
        rw (far, before) (omega (arith, rest))
    go false apart false far true near more = let rest = more (rw apart at there) in rw (far, near) (omega (arith, rest))
    go false apart false far false near more = let rest = more (rw apart at there) in rw (far, near) rest

-- a row that was written over changes what is seen of it alone
pub changed_at : {X Y : Type 0} (view : X → Y) (f : Y → Y) (n : ℕ) (x w : X) (old new : List (ℕ × X)) → Some x ≡ row_at n old → Updates n (Some w) old new → view w ≡ f (view x) → ChangesAt view f n old new
changed_at view f n x w old new there updates is = record {
  here = ap (option_map view) (updates n ∙ itself) ∙ (ap Some is ∙ ap (λ o. option_map f (option_map view o)) there);
  elsewhere = λ q apart. updates q ∙ rw apart refl;
}
  where
    itself : (if n == n then Some w else row_at n old) ≡ Some w
    itself = grind (arith, nat_tests)

-- where there is no row, nothing has changed
pub changed_none : {X Y : Type 0} (view : X → Y) (f : Y → Y) (n : ℕ) (old new : List (ℕ × X)) → None ≡ row_at n old → new ≡ old → ChangesAt view f n old new
changed_none {X} view f n old new none same = record {
  here = ap (λ (rows : List (ℕ × X)). option_map view (row_at n rows)) same ∙ (ap (option_map view) (sym none) ∙ ap (λ (o : Option X). option_map f (option_map view o)) none);
  elsewhere = λ q apart. ap (row_at q) same;
}

-- how far a walk has come: what is seen of the rows up to the last one has changed by f, and those behind it are as they were
pub record Walked {X Y : Type 0} (view : X → Y) (f : Y → Y) (after : Option ℕ) (old new : List (ℕ × X)) : Type 0 where
  pub done : (q : ℕ) → is_behind after q ≡ false → option_map view (row_at q new) ≡ option_map f (option_map view (row_at q old))
  pub rest : (q : ℕ) → is_behind after q ≡ true → row_at q new ≡ row_at q old

pub walked_none : {X Y : Type 0} (view : X → Y) (f : Y → Y) (rows : List (ℕ × X)) → Walked view f None rows rows
walked_none view f rows = record {
  done = λ q out. absurd (true≢false out);
  rest = λ q over. refl;
}

-- what is seen of a row that fails the test stays by f
idle_at : {X Y : Type 0} (view : X → Y) (f : Y → Y) (test : X → Bool) → ((x : X) → test x ≡ false → view x ≡ f (view x)) → (o : Option X) → is_such test o ≡ false → option_map view o ≡ option_map f (option_map view o)
idle_at view f test idle None fails = refl
idle_at view f test idle (Some x) fails = ap Some (idle x fails)

-- and of one that passes it f makes what g does
agreed_at : {X Y : Type 0} (view : X → Y) (f g : Y → Y) (test : X → Bool) → ((x : X) → test x ≡ true → g (view x) ≡ f (view x)) → (o : Option X) → is_such test o ≡ true → option_map g (option_map view o) ≡ option_map f (option_map view o)
agreed_at view f g test agree None passes = refl
agreed_at view f g test agree (Some x) passes = ap Some (agree x passes)

-- what passes a test is there
such_some : {X : Type 0} (test : X → Bool) (o : Option X) → is_such test o ≡ true → is_some o ≡ true
such_some test None passes = absurd (true≢false (sym passes))
such_some test (Some x) passes = refl

-- and so a walk comes to its end
pub walked_less : {X Y : Type 0} (view : X → Y) (f : Y → Y) (test : X → Bool) (after : Option ℕ) (n : ℕ) (old rows : List (ℕ × X)) → Walked view f after old rows → IsNextSuch test after rows (Some n) → behind_count (Some n) old < behind_count after old
walked_less {X} view f test after n old rows walked next =
    less_behind after n old next.0 (ap (λ (o : Option X). is_some o) (sym (walked.rest n next.0)) ∙ such_some test (row_at n rows) next.1)

-- a step to the next row that passes the test
pub walked_more : {X Y : Type 0} (view : X → Y) (f g : Y → Y) (test : X → Bool) (after : Option ℕ) (n : ℕ) (old rows new : List (ℕ × X)) → ((x : X) → test x ≡ true → g (view x) ≡ f (view x)) → ((x : X) → test x ≡ false → view x ≡ f (view x))
    → Walked view f after old rows → IsNextSuch test after rows (Some n) → ChangesAt view g n rows new → Walked view f (Some n) old new
walked_more {X} {Y} view f g test after n old rows new agree idle walked next changes = record {
  done = λ q out. finish q out (n == q) refl (is_behind after q) refl;
  rest = λ q over. changes.elsewhere q (above_apart n q over) ∙ walked.rest q (behind_more after n q next.0 over);
}
  where
    finish : (q : ℕ) → nat_lt n q ≡ false → (b : Bool) → (n == q) ≡ b → (c : Bool) → is_behind after q ≡ c → option_map view (row_at q new) ≡ option_map f (option_map view (row_at q old))
    finish q out true same c is =
        let number : n ≡ q = grind (arith, nat_tests, same) in
        subst (λ (m : ℕ). option_map view (row_at m new) ≡ option_map f (option_map view (row_at m old))) number
        (changes.here ∙ (agreed_at view f g test agree (row_at n rows) next.1 ∙ ap (λ (o : Option X). option_map f (option_map view o)) (walked.rest n next.0)))
    finish q out false apart false before = ap (option_map view) (changes.elsewhere q apart) ∙ walked.done q before
    finish q out false apart true later =
        ap (option_map view) (changes.elsewhere q apart)
        ∙ (idle_at view f test idle (row_at q rows) (next.2 q later (below n q out apart)) ∙ ap (λ (o : Option X). option_map f (option_map view o)) (walked.rest q later))

-- the rows as they are seen, under their numbers
abbrev pub seen_rows : {X Y : Type 0} → (X → Y) → List (ℕ × X) → List (ℕ × Y)
seen_rows view rows = map (λ e. (e.0, view e.1)) rows

seen_at : {X Y : Type 0} (view : X → Y) (q : ℕ) (rows : List (ℕ × X)) → row_at q (seen_rows view rows) ≡ option_map view (row_at q rows)
seen_at view q [] = refl
seen_at {X} {Y} view q (e ∷ rows) = go (e.0 == q) refl (seen_at view q rows)
  where
    go : (b : Bool) → (e.0 == q) ≡ b → row_at q (seen_rows view rows) ≡ option_map view (row_at q rows) → row_at q (seen_rows view (e ∷ rows)) ≡ option_map view (row_at q (e ∷ rows))
    go true here more = rw here refl
    go false apart more = rw apart more

rows_seen : {X Y : Type 0} (view : X → Y) (rows : List (ℕ × X)) → rows_of (seen_rows view rows) ≡ map view (rows_of rows)
rows_seen view [] = refl
rows_seen view (e ∷ rows) = ap (λ rest. view e.1 ∷ rest) (rows_seen view rows)

map_twice : {X Y : Type 0} (view : X → Y) (f : Y → Y) (xs : List X) → map (λ x. f (view x)) xs ≡ map f (map view xs)
map_twice view f [] = refl
map_twice view f (x ∷ xs) = ap (λ rest. f (view x) ∷ rest) (map_twice view f xs)

once : {X Y : Type 0} (view : X → Y) (f : Y → Y) (o : Option X) → option_map (λ x. f (view x)) o ≡ option_map f (option_map view o)
once view f None = refl
once view f (Some x) = refl

-- lists of rows of which each look-up sees the change
changed_list : {X Y : Type 0} (view : X → Y) (f : Y → Y) (old new : List (ℕ × X)) → Ascend (λ (e : ℕ × X). e.0) old → Ascend (λ (e : ℕ × X). e.0) new → ((q : ℕ) → option_map view (row_at q new) ≡ option_map f (option_map view (row_at q old))) → map view (rows_of new) ≡ map f (map view (rows_of old))
changed_list {X} {Y} view f old new up down each =
    let same = same_rows (seen_rows view new) (seen_rows (λ x. f (view x)) old)
    (ascend_map (λ (e : ℕ × Y). e.0) (λ (e : ℕ × X). (e.0, view e.1)) new down) (ascend_map (λ (e : ℕ × Y). e.0) (λ (e : ℕ × X). (e.0, f (view e.1))) old up)
    (λ q. seen_at view q new ∙ (each q ∙ (sym (once view f (row_at q old)) ∙ sym (seen_at (λ x. f (view x)) q old)))) in
    sym (rows_seen view new) ∙ (ap rows_of same ∙ (rows_seen (λ x. f (view x)) old ∙ map_twice view f (rows_of old)))

-- a walk that is at its end has changed all
pub walked_all : {X Y : Type 0} (view : X → Y) (f : Y → Y) (test : X → Bool) (after : Option ℕ) (old new : List (ℕ × X)) → Ascend (λ (e : ℕ × X). e.0) old → Ascend (λ (e : ℕ × X). e.0) new → ((x : X) → test x ≡ false → view x ≡ f (view x))
    → Walked view f after old new → IsNextSuch test after new None → map view (rows_of new) ≡ map f (map view (rows_of old))
walked_all {X} {Y} view f test after old new up down idle walked next = changed_list view f old new up down (λ q. go q (is_behind after q) refl)
  where
    go : (q : ℕ) → (b : Bool) → is_behind after q ≡ b → option_map view (row_at q new) ≡ option_map f (option_map view (row_at q old))
    go q false before = walked.done q before
    go q true later = idle_at view f test idle (row_at q new) (next q later) ∙ ap (λ (o : Option X). option_map f (option_map view o)) (walked.rest q later)

map_same : {Y : Type 0} (ys : List Y) → map (λ y. y) ys ≡ ys
map_same [] = refl
map_same (y ∷ ys) = ap (λ rest. y ∷ rest) (map_same ys)

stays_at : {Y : Type 0} (o : Option Y) → option_map (λ y. y) o ≡ o
stays_at None = refl
stays_at (Some y) = refl

-- a walk that changes nothing that is seen has changed nothing wherever it is
pub walked_same : {X Y : Type 0} (view : X → Y) (after : Option ℕ) (old new : List (ℕ × X)) → Ascend (λ (e : ℕ × X). e.0) old → Ascend (λ (e : ℕ × X). e.0) new → Walked view (λ y. y) after old new → map view (rows_of new) ≡ map view (rows_of old)
walked_same {X} {Y} view after old new up down walked = changed_list view (λ y. y) old new up down (λ q. go q (is_behind after q) refl) ∙ map_same (map view (rows_of old))
  where
    go : (q : ℕ) → (b : Bool) → is_behind after q ≡ b → option_map view (row_at q new) ≡ option_map (λ y. y) (option_map view (row_at q old))
    go q false before = walked.done q before
    go q true later = ap (option_map view) (walked.rest q later) ∙ sym (stays_at (option_map view (row_at q old)))

-- what holds of each row holds of the one that is found
pub at_each : {X : Type 0} (P : X → Type 0) (q : ℕ) (rows : List (ℕ × X)) → AllByRecursion P (rows_of rows) → IfSome (row_at q rows) P
at_each P q [] all = tt
at_each {X} P q (e ∷ rows) all = go (e.0 == q) refl (at_each P q rows all.1)
  where
    go : (b : Bool) → (e.0 == q) ≡ b → IfSome (row_at q rows) P → IfSome (row_at q (e ∷ rows)) P
    go true here more = rw here all.0
    go false apart more = rw apart more

-- and what holds of whichever is found holds of each
pub each_at : {X : Type 0} (P : X → Type 0) (rows : List (ℕ × X)) → Ascend (λ (e : ℕ × X). e.0) rows → ((q : ℕ) → IfSome (row_at q rows) P) → AllByRecursion P (rows_of rows)
each_at P [] up each = tt
each_at {X} P (e ∷ rows) up each = (subst (λ (o : Option X). IfSome o P) (first_found e rows) (each e.0), each_at P rows up.1 (λ q. go q (e.0 == q) refl))
  where
    go : (q : ℕ) → (b : Bool) → (e.0 == q) ≡ b → IfSome (row_at q rows) P
    go q true here =
        let none : row_at q rows ≡ None = none_found q rows (all_weaker (λ (f : ℕ × X). e.0 < f.0) (λ (f : ℕ × X). q < f.0) (λ f more. grind (arith, nat_tests, here, more)) rows up.0) in
        subst (λ (o : Option X). IfSome o P) (sym none) tt
    go q false apart = subst (λ (o : Option X). IfSome o P) (later_found q e rows apart) (each q)
