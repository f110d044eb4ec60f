-- The table of open gets follows what the gets hear.
use Rattle.std.proofs.Common.{◌≡◌, ◌≢◌, ℕ, ◌<◌, Bool, true, false, List, [], ◌∷◌, ◌++◌, Some, refl, sym, ap, ◌∙◌, arith}
use Rattle.std.specs.Prelude.{◌==◌, ◌&&◌, ◌||◌, nat_le, not, map, filter, if◌then◌else◌}
use Rattle.std.specs.List.{AllByRecursion, list_any}
use Rattle.std.proofs.lemmas.Bool.Decides.{nat_tests}
use Rattle.std.proofs.lemmas.List.{map-append, append-nil}
use Rattle.std.proofs.lemmas.List.Elements.{filter-append}
use Rattle.zs_sample.specs.Reply.{Replied}
use Rattle.zs_wire.specs.declared.request.ConsolidationMode.{ConsolidationMode}
use Rattle.zs_wire.specs.declared.request.ConsolidationMode.TheVariants as by
use Rattle.zs_query.specs.declared.side.Side.{Side}
use Rattle.zs_query.specs.declared.side.Side.TheVariants.{Local, Network}
use Rattle.zs_query.specs.declared.get_row.GetRow.{GetRow}
use Rattle.zs_query.specs.declared.open_get.OpenGet.{OpenGet}
use Rattle.zs_query.specs.declared.outcome.Outcome.{Outcome}
use Rattle.zs_query.specs.declared.outcome.Outcome.TheVariants as outcome
use Rattle.zs_query.specs.Ascending.{Ascend}
use Rattle.zs_query.specs.Marks.{key_of}
use Rattle.zs_query.specs.Gets.{get_at, fresh, takes_key, replied, wants, other_side, less, less_final, final_outcome, after_final, names}
use Rattle.zs_query.specs.Laws.{kept_in, passed_in, get_after}
use Rattle.zs_query.specs.Asked.{News, Quiet, ReplyTo, FinalOf, AtMoment, QuerierEnds, CancelledBy, AllEnd, Asked, is_done, waiting, waits, is_end, is_open, is_for, replies_in, state, open_gets, hearing, heard, opened, OpenGetsAreTold}
use Rattle.zs_query.proofs.Ascending.{all_weaker, ascend_filter}
use Rattle.zs_query.proofs.Getting.{with_none}
use Rattle.zs_query.proofs.Searching.{filter_none}
use Rattle.zs_query.proofs.Standing.{stands}

-- the open ones of two lists
pub open_append : (xs ys : List Asked) → open_gets (xs ++ ys) ≡ open_gets xs ++ open_gets ys
open_append xs ys = ap (map state) (filter-append is_open xs ys) ∙ map-append state (filter is_open xs) (filter is_open ys)

-- what holds of each element's image holds of each element of the image
pub all_map : {X Y : Type 0} (P : Y → Type 0) (f : X → Y) (xs : List X) → AllByRecursion (λ x. P (f x)) xs → AllByRecursion P (map f xs)
all_map P f [] all = tt
all_map P f (x ∷ xs) all = (all.0, all_map P f xs all.1)

-- a map that keeps the numbers keeps the order
pub ascend_map : {X Y : Type 0} (number : Y → ℕ) (f : X → Y) (xs : List X) → Ascend (λ x. number (f x)) xs → Ascend number (map f xs)
ascend_map number f [] up = tt
ascend_map number f (x ∷ xs) up = (all_map (λ later. number (f x) < number later) f xs up.0, ascend_map number f xs up.1)

-- the open gets stand in the order in which they were asked
pub open_ascend : (asked : List Asked) → Ascend (λ (a : Asked). a.row.number) asked → Ascend (λ (g : OpenGet). g.row.number) (open_gets asked)
open_ascend asked up = ascend_map (λ (g : OpenGet). g.row.number) state (filter is_open asked) (ascend_filter (λ (a : Asked). a.row.number) is_open asked up)

-- where news changes each get by itself, and each that is open stays so by a test, the table changes so
each_get : (news : News) (f : OpenGet → OpenGet) (keep : OpenGet → Bool) → ((a : Asked) → is_open (hearing news a) ≡ (is_open a && keep (f (state a)))) → ((a : Asked) → state (hearing news a) ≡ f (state a)) → (asked : List Asked) → open_gets (map (hearing news) asked) ≡ filter keep (map f (open_gets asked))
each_get news f keep opens same [] = refl
each_get news f keep opens same (a ∷ asked) = go (is_open a) refl (keep (f (state a))) refl (each_get news f keep opens same asked)
  where
    go : (b : Bool) → is_open a ≡ b → (k : Bool) → keep (f (state a)) ≡ k → open_gets (map (hearing news) asked) ≡ filter keep (map f (open_gets asked)) → open_gets (map (hearing news) (a ∷ asked)) ≡ filter keep (map f (open_gets (a ∷ asked)))
    go true o true k rest = rw (opens a, o, k, same a, rest) refl
    go true o false k rest = rw (opens a, o, k, rest) refl
    go false o k' k rest = rw (opens a, o, rest) refl

-- all pass
filter_all : {X : Type 0} (xs : List X) → filter (λ x. true) xs ≡ xs
filter_all [] = refl
filter_all (x ∷ xs) = ap (λ rest. x ∷ rest) (filter_all xs)

-- nothing is changed
map_same : {X : Type 0} (xs : List X) → map (λ x. x) xs ≡ xs
map_same [] = refl
map_same (x ∷ xs) = ap (λ rest. x ∷ rest) (map_same xs)

-- a get after a reply that may be meant for it
abbrev replied_at : ℕ → Replied → OpenGet → OpenGet
replied_at n r g = if g.row.number == n then replied r g else g

-- a reply that reaches a get is the next of its replies
state_replied : (n : ℕ) (r : Replied) (a : Asked) → state (hearing (ReplyTo n r) a) ≡ replied_at n r (state a)
state_replied n r a = go (a.row.number == n) refl (takes_key a.row (key_of r)) refl
  where
    go : (b : Bool) → (a.row.number == n) ≡ b → (t : Bool) → takes_key a.row (key_of r) ≡ t → state (hearing (ReplyTo n r) a) ≡ replied_at n r (state a)
    go true is true takes =
        let rs = replies_in a.row a.since in
        let both : is_for a.row n r ≡ true = rw (is, takes) refl in
        ap (λ (b : Bool). get_after (waiting a) (if b then r ∷ rs else rs)) both
        ∙ (sym (stands (waiting a) rs r takes).after ∙ sym (ap (λ (b : Bool). if b then replied r (state a) else state a) is))
    go true is false takes = rw (is, takes) refl
    go false is t takes = rw is refl

-- a get after a final that may be meant for it
abbrev final_at : ℕ → Side → OpenGet → OpenGet
final_at n side g = if g.row.number == n then less_final side g else g

-- what a get waits for, as two truths
and_true : (b : Bool) → (b && true) ≡ b
and_true true = refl
and_true false = refl

and_false : (b : Bool) → (b && false) ≡ false
and_false true = refl
and_false false = refl

or_false : (b : Bool) → (b || false) ≡ b
or_false true = refl
or_false false = refl

-- a get that waits for one side alone behind a final of the other, and whether it is open then
still_open : (l m k : Bool) → (m && k) ≡ (((l || m) && k) && m)
still_open true true k = sym (and_true k)
still_open true false k = sym (and_false k)
still_open false true k = sym (and_true k)
still_open false false k = refl

still_same : (w k : Bool) → (w && k) ≡ ((w && k) && w)
still_same true k = sym (and_true k)
still_same false k = refl

-- the same where a moment is reached
still_early : (w d e : Bool) → (w && not (d || e)) ≡ ((w && not e) && not d)
still_early false d e = refl
still_early true true e = sym (and_false (not e))
still_early true false e = sym (and_true (not e))

open_final : (n : ℕ) (side : Side) (a : Asked) → is_open (hearing (FinalOf n side) a) ≡ (is_open a && waits (final_at n side (state a)).row)
open_final n side a = go (a.row.number == n) refl side
  where
    left : (l d m e k : Bool) → (((l && not (true || d)) || (m && not (false || e))) && k) ≡ ((((l && not d) || (m && not e)) && k) && (((l && not d) && not true) || ((m && not e) && true)))
    left l d m e k = rw (and_false l, and_false (l && not d), and_true (m && not e)) (still_open (l && not d) (m && not e) k)

    right : (l d m e k : Bool) → (((l && not (false || d)) || (m && not (true || e))) && k) ≡ ((((l && not d) || (m && not e)) && k) && (((l && not d) && not false) || ((m && not e) && false)))
    right l d m e k = rw (and_false m, and_false (m && not e), and_true (l && not d)) (flipped (l && not d) (m && not e) k)
      where
        flipped : (x y k : Bool) → ((x || false) && k) ≡ (((x || y) && k) && (x || false))
        flipped true y k = sym (and_true k)
        flipped false y k = sym (and_false (y && k))

    go : (h : Bool) → (a.row.number == n) ≡ h → (s : Side) → is_open (hearing (FinalOf n s) a) ≡ (is_open a && waits (final_at n s (state a)).row)
    go true is Local = rw is (left a.row.local_wanted (is_done Local a) a.row.network_wanted (is_done Network a) (not (list_any (is_end a.row) a.since)))
    go true is Network = rw is (right a.row.local_wanted (is_done Local a) a.row.network_wanted (is_done Network a) (not (list_any (is_end a.row) a.since)))
    go false is s = rw is (still_same (waits (waiting a)) (not (list_any (is_end a.row) a.since)))

-- a get of that row with what its replies make it keep
abbrev state_with : GetRow → List Replied → Bool → Bool → OpenGet
state_with row replies l m = record {
  row = record row { local_wanted = l; network_wanted = m };
  kept = kept_in row.mode replies;
  passed = passed_in row.mode replies;
}

state_final : (n : ℕ) (side : Side) (a : Asked) → state (hearing (FinalOf n side) a) ≡ final_at n side (state a)
state_final n side a = go (a.row.number == n) refl side
  where
    done : (l d : Bool) → (l && not (true || d)) ≡ ((l && not d) && false)
    done l d = and_false l ∙ sym (and_false (l && not d))

    stays : (m e : Bool) → (m && not (false || e)) ≡ ((m && not e) && true)
    stays m e = sym (and_true (m && not e))

    go : (h : Bool) → (a.row.number == n) ≡ h → (s : Side) → state (hearing (FinalOf n s) a) ≡ final_at n s (state a)
    go true is Local =
        let l = done a.row.local_wanted (is_done Local a) in
        let m = stays a.row.network_wanted (is_done Network a) in
        rw is (λ i. state_with a.row (replies_in a.row a.since) (l i) (m i))
    go true is Network =
        let l = stays a.row.local_wanted (is_done Local a) in
        let m = done a.row.network_wanted (is_done Network a) in
        rw is (λ i. state_with a.row (replies_in a.row a.since) (l i) (m i))
    go false is s = rw is refl

-- an open get waits for a side
open_waits : (asked : List Asked) → AllByRecursion (λ (g : OpenGet). waits g.row ≡ true) (open_gets asked)
open_waits [] = tt
open_waits (a ∷ asked) = go (is_open a) refl (open_waits asked)
  where
    first : (b c : Bool) → (b && c) ≡ true → b ≡ true
    first true c is = refl
    first false c is = cc

    go : (b : Bool) → is_open a ≡ b → AllByRecursion (λ (g : OpenGet). waits g.row ≡ true) (open_gets asked) → AllByRecursion (λ (g : OpenGet). waits g.row ≡ true) (open_gets (a ∷ asked))
    go true is rest = rw is (first (waits (waiting a)) (not (list_any (is_end a.row) a.since)) is, rest)
    go false is rest = rw is rest

-- where all pass a test, a filter keeps all
filter_keeps : {X : Type 0} (p : X → Bool) (xs : List X) → AllByRecursion (λ x. p x ≡ true) xs → filter p xs ≡ xs
filter_keeps p [] all = refl
filter_keeps p (x ∷ xs) all = rw (all.0, filter_keeps p xs all.1) refl

-- a get that doesn't wait for a side is the same behind its final
less_same : (side : Side) (g : OpenGet) → wants side g.row ≡ false → less_final side g ≡ g
less_same Local g is =
    let l : (g.row.local_wanted && false) ≡ g.row.local_wanted = and_false g.row.local_wanted ∙ sym is in
    let m : (g.row.network_wanted && true) ≡ g.row.network_wanted = and_true g.row.network_wanted in
    λ i. record { row = record g.row { local_wanted = l i; network_wanted = m i }; kept = g.kept; passed = g.passed }
less_same Network g is =
    let l : (g.row.local_wanted && true) ≡ g.row.local_wanted = and_true g.row.local_wanted in
    let m : (g.row.network_wanted && false) ≡ g.row.network_wanted = and_false g.row.network_wanted ∙ sym is in
    λ i. record { row = record g.row { local_wanted = l i; network_wanted = m i }; kept = g.kept; passed = g.passed }

-- behind a final it waits where it waits for the other side
less_waits : (side : Side) (row : GetRow) → waits (less side row) ≡ wants (other_side side) row
less_waits Local row = rw (and_false row.local_wanted, and_true row.network_wanted) refl
less_waits Network row = rw (and_true row.local_wanted, and_false row.network_wanted) (or_false row.local_wanted)

-- a final changes nothing of a get that has another number
after_skip : (o : Outcome) (side : Side) (n : ℕ) (g : OpenGet) (gets : List OpenGet) → (g.row.number == n) ≡ false → after_final o side n (g ∷ gets) ≡ g ∷ after_final o side n gets
after_skip outcome.Counted side n g gets is = rw is refl
after_skip (outcome.Ended replies) side n g gets is = rw is refl
after_skip outcome.Unknown side n g gets is = refl
after_skip outcome.Unmatched side n g gets is = refl
after_skip outcome.Kept side n g gets is = refl
after_skip outcome.Dropped side n g gets is = refl
after_skip (outcome.Handed reply) side n g gets is = refl
after_skip outcome.Repeated side n g gets is = refl

-- a final changes the get of its number, and takes it out where it waits for nobody
final_is : (n : ℕ) (side : Side) (gets : List OpenGet) → Ascend (λ (g : OpenGet). g.row.number) gets → AllByRecursion (λ (g : OpenGet). waits g.row ≡ true) gets → after_final (final_outcome side (get_at n gets)) side n gets ≡ filter (λ g. waits g.row) (map (final_at n side) gets)
final_is n side [] up all = refl
final_is n side (g ∷ gets) up all = go (g.row.number == n) refl (final_is n side gets up.1 all.1)
  where
    kept : filter (λ (h : OpenGet). waits h.row) gets ≡ gets
    kept = filter_keeps (λ (h : OpenGet). waits h.row) gets all.1

    by_sides : (g.row.number == n) ≡ true → AllByRecursion (λ (h : OpenGet). h.row.number ≢ n) gets → (b : Bool) → wants side g.row ≡ b → (c : Bool) → wants (other_side side) g.row ≡ c
        → after_final (final_outcome side (Some g)) side n (g ∷ gets) ≡ filter (λ h. waits h.row) (less_final side g ∷ gets)
    by_sides is others false b c d =
        let stays : waits (less side g.row) ≡ true = ap (λ (h : OpenGet). waits h.row) (less_same side g b) ∙ all.0 in
        rw (b, stays, less_same side g b, kept) refl
    by_sides is others true b true c = rw (b, c, is, less_waits side g.row, c, with_none n (less_final side) gets others, kept) refl
    by_sides is others true b false c = rw (b, c, is, less_waits side g.row, c, filter_none (λ (h : OpenGet). h.row.number) n gets others, kept) refl

    go : (b : Bool) → (g.row.number == n) ≡ b → after_final (final_outcome side (get_at n gets)) side n gets ≡ filter (λ h. waits h.row) (map (final_at n side) gets)
        → after_final (final_outcome side (get_at n (g ∷ gets))) side n (g ∷ gets) ≡ filter (λ h. waits h.row) (map (final_at n side) (g ∷ gets))
    go true is rest =
        let same : g.row.number ≡ n = grind (arith, nat_tests, is) in
        let others = all_weaker (λ (later : OpenGet). g.row.number < later.row.number) (λ (later : OpenGet). later.row.number ≢ n) (λ y more e. omega (arith, more, e, same)) gets up.0 in
        rw (is, with_none n (less_final side) gets others) (by_sides is others (wants side g.row) refl (wants (other_side side) g.row) refl)
    go false is rest = rw (is, all.0) (after_skip (final_outcome side (get_at n gets)) side n g gets is ∙ ap (λ more. g ∷ more) rest)

-- news that ends those whose row passes a test, and is nothing else to any
ends_some : (news : News) (ends : GetRow → Bool) → ((a : Asked) → is_open (hearing news a) ≡ (waits (waiting a) && not (ends (waiting a) || list_any (is_end a.row) a.since))) → ((a : Asked) → state (hearing news a) ≡ state a) → (asked : List Asked)
    → open_gets (map (hearing news) asked) ≡ filter (λ g. not (ends g.row)) (open_gets asked)
ends_some news ends opens same asked =
    each_get news (λ g. g) (λ g. not (ends g.row)) (λ a. opens a ∙ still_early (waits (waiting a)) (ends (waiting a)) (list_any (is_end a.row) a.since)) same asked
    ∙ ap (filter (λ g. not (ends g.row))) (map_same (open_gets asked))

-- where all end none is open
all_end : (asked : List Asked) → open_gets (map (hearing AllEnd) asked) ≡ []
all_end [] = refl
all_end (a ∷ asked) = rw (and_false (waits (waiting a))) (all_end asked)

pub told : OpenGetsAreTold
told asked Quiet up = refl
told asked (ReplyTo n r) up =
    each_get (ReplyTo n r) (replied_at n r) (λ g. true) (λ a. sym (and_true (is_open a))) (state_replied n r) asked ∙ filter_all (map (replied_at n r) (open_gets asked))
told asked (FinalOf n side) up =
    each_get (FinalOf n side) (final_at n side) (λ g. waits g.row) (open_final n side) (state_final n side) asked
    ∙ sym (final_is n side (open_gets asked) (open_ascend asked up) (open_waits asked))
told asked (AtMoment m) up = ends_some (AtMoment m) (λ row. nat_le row.deadline m) (λ a. refl) (λ a. refl) asked
told asked (QuerierEnds id) up = ends_some (QuerierEnds id) (λ row. names id row.querier) (λ a. refl) (λ a. refl) asked
told asked (CancelledBy cancellation_token) up = ends_some (CancelledBy cancellation_token) (λ row. names cancellation_token row.cancellation_token) (λ a. refl) (λ a. refl) asked
told asked AllEnd up = all_end asked

-- a get that has had no reply is as it was asked
fresh_is : (row : GetRow) → get_after row [] ≡ fresh row
fresh_is row = go row.mode
  where
    go : (mode : ConsolidationMode) → let g : OpenGet = record { row = row; kept = kept_in mode []; passed = passed_in mode [] } in g ≡ fresh row
    go by.Auto = refl
    go by.None = refl
    go by.Monotonic = refl
    go by.Latest = refl

-- one more get that nothing has ended and that has had no reply
pub open_more : (a : Asked) (asked : List Asked) → list_any (is_end a.row) a.since ≡ false → replies_in a.row a.since ≡ [] → open_gets (asked ++ a ∷ []) ≡ opened (waiting a) (open_gets asked)
open_more a asked unended unreplied = open_append asked (a ∷ []) ∙ go (waits (waiting a)) refl
  where
    same : state a ≡ fresh (waiting a)
    same = ap (get_after (waiting a)) unreplied ∙ fresh_is (waiting a)

    go : (b : Bool) → waits (waiting a) ≡ b → open_gets asked ++ open_gets (a ∷ []) ≡ opened (waiting a) (open_gets asked)
    go true is = rw (is, unended, same) refl
    go false is = rw is (append-nil (open_gets asked))

-- hearing keeps the order
pub heard_ascend : (news : News) (asked : List Asked) → Ascend (λ (a : Asked). a.row.number) asked → Ascend (λ (a : Asked). a.row.number) (heard news asked)
heard_ascend Quiet asked up = up
heard_ascend (ReplyTo n r) asked up = ascend_map (λ (a : Asked). a.row.number) (hearing (ReplyTo n r)) asked up
heard_ascend (FinalOf n side) asked up = ascend_map (λ (a : Asked). a.row.number) (hearing (FinalOf n side)) asked up
heard_ascend (AtMoment m) asked up = ascend_map (λ (a : Asked). a.row.number) (hearing (AtMoment m)) asked up
heard_ascend (QuerierEnds id) asked up = ascend_map (λ (a : Asked). a.row.number) (hearing (QuerierEnds id)) asked up
heard_ascend (CancelledBy cancellation_token) asked up = ascend_map (λ (a : Asked). a.row.number) (hearing (CancelledBy cancellation_token)) asked up
heard_ascend AllEnd asked up = ascend_map (λ (a : Asked). a.row.number) (hearing AllEnd) asked up
