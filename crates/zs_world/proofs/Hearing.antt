-- What listeners hear of a change, by their tables.
use Rattle.std.proofs.Common.{◌≡◌, ◌≢◌, ℕ, ◌<◌, Bool, true, false, List, [], ◌∷◌, ◌++◌, Option, refl, sym, ap, ◌∙◌, arith}
use Rattle.std.specs.Prelude.{◌==◌, ◌&&◌, ◌||◌, not, nat_lt, map, filter, if◌then◌else◌}
use Rattle.std.specs.List.{AllByRecursion}
use Rattle.std.proofs.lemmas.Bool.Decides.{nat_tests}
use Rattle.zs_tables.specs.declared.listener.ListenerRow.{ListenerRow}
use Rattle.zs_tables.specs.declared.recount.Recount.{Recount}
use Rattle.zs_subscriptions.specs.Ascending.{Ascend}
use Rattle.zs_tables.specs.declared.listener.Listener.{Listener}
use Rattle.zs_tables.specs.Matching.{Candidate, status, count_of, AreCounted, recounts, is_heard}
use Rattle.zs_tables.specs.MatchingLaws.{Moves, Heard, heard, told_of, differ}
use Rattle.zs_subscriptions.proofs.Ascending.{all_weaker, all_both, all_filter}
use Rattle.zs_keyed.proofs.Ascending.{by_test}
use Rattle.zs_tables.proofs.Moving.{heard_turned, status_counted}
use Rattle.zs_events.specs.declared.turn.Effect.{Effect}
use Rattle.zs_events.specs.declared.turn.Effect.TheVariants.{Matching, End}
use Rattle.zs_events.specs.declared.turn.Kind.TheVariants.{Listener as listener_kind}
use Rattle.zs_model.specs.Listeners.{is_listener, listener_ends}
use Rattle.zs_model.specs.Matching.{turned}
use Rattle.zs_entity_tables.specs.MatchingTables.{heard_effect}

-- what listeners make of a change: these listeners and candidates before it, and those behind it
abbrev pub between : List ListenerRow → List ListenerRow → List Candidate → List Candidate → List Effect
between rows left old new =
    listener_ends (filter (λ row. not (is_listener row.id left)) rows)
    ++ turned (λ row. is_listener row.id rows && status old row) (status new) left

append_none : {X : Type 0} (xs : List X) → xs ++ [] ≡ xs
append_none [] = refl
append_none {X} (x ∷ xs) = ap (λ (rest : List X). x ∷ rest) (append_none xs)

or_true : (a b : Bool) → b ≡ true → (a || b) ≡ true
or_true true b h = refl
or_true false b h = h

same_id : (row : ListenerRow) → (row.id == row.id) ≡ true
same_id row = grind (arith, nat_tests)

-- each listener is one of them
pub all_there : (rows : List ListenerRow) → AllByRecursion (λ (row : ListenerRow). is_listener row.id rows ≡ true) rows
all_there [] = tt
all_there (row ∷ rows) = (
  rw (same_id row) refl,
  all_weaker (λ (r : ListenerRow). is_listener r.id rows ≡ true) (λ (r : ListenerRow). is_listener r.id (row ∷ rows) ≡ true)
      (λ r h. or_true (row.id == r.id) (is_listener r.id rows) h) rows (all_there rows),
)

-- where all are there, none ends
none_end : (left rows : List ListenerRow) → AllByRecursion (λ (row : ListenerRow). is_listener row.id left ≡ true) rows
    → filter (λ (row : ListenerRow). not (is_listener row.id left)) rows ≡ []
none_end left [] all = refl
none_end left (row ∷ rows) all = rw all.0 (none_end left rows all.1)

-- and each was there before
turned_there : (all_rows : List ListenerRow) (p q : ListenerRow → Bool) (rows : List ListenerRow) → AllByRecursion (λ (row : ListenerRow). is_listener row.id all_rows ≡ true) rows
    → turned (λ row. is_listener row.id all_rows && p row) q rows ≡ turned p q rows
turned_there all_rows p q [] all = refl
turned_there all_rows p q (row ∷ rows) all =
    let ih = turned_there all_rows p q rows all.1 in
    by_test (differ (p row) (q row))
    (λ k. rw (all.0, k) (ap (λ (rest : List Effect). Matching row.id (q row) ∷ rest) ih))
    (λ k. rw (all.0, k) ih)

same_differ : (b : Bool) → differ b b ≡ false
same_differ true = refl
same_differ false = refl

-- nobody hears of what stays
turned_same : (p : ListenerRow → Bool) (rows : List ListenerRow) → turned p p rows ≡ []
turned_same p [] = refl
turned_same p (row ∷ rows) = rw (same_differ (p row)) (turned_same p rows)

-- the listeners are the same: those hear whose status turns
pub between_moved : (rows : List ListenerRow) (old new : List Candidate) → between rows rows old new ≡ turned (status old) (status new) rows
between_moved rows old new =
    let there = all_there rows in
    λ i. listener_ends (none_end rows rows there i) ++ turned_there rows (status old) (status new) rows there i

-- so are the candidates: nothing is heard
pub between_same : (rows : List ListenerRow) (cs : List Candidate) → between rows rows cs cs ≡ []
between_same rows cs = between_moved rows cs cs ∙ turned_same (status cs) rows

keep_all : (rows : List ListenerRow) → filter (λ (row : ListenerRow). not (is_listener row.id [])) rows ≡ rows
keep_all [] = refl
keep_all (row ∷ rows) = ap (λ (rest : List ListenerRow). row ∷ rest) (keep_all rows)

-- nobody is left
pub between_none : (rows : List ListenerRow) (old new : List Candidate) → between rows [] old new ≡ listener_ends rows
between_none rows old new = append_none _ ∙ ap listener_ends (keep_all rows)

-- one behind others is none of them
not_later : (keep : ListenerRow → Bool) (n : ℕ) (rows : List ListenerRow) → AllByRecursion (λ (row : ListenerRow). n < row.id) rows → is_listener n (filter keep rows) ≡ false
not_later keep n [] up = refl
not_later keep n (row ∷ rows) up =
    let other : (row.id == n) ≡ false = grind (arith, nat_tests, up.0) in
    by_test (keep row) (λ k. rw (k, other) (not_later keep n rows up.1)) (λ k. rw k (not_later keep n rows up.1))

-- of ascending ones those are there that are kept
kept_there : (keep : ListenerRow → Bool) (rows : List ListenerRow) → Ascend (λ (row : ListenerRow). row.id) rows → AllByRecursion (λ (row : ListenerRow). is_listener row.id (filter keep rows) ≡ keep row) rows
kept_there keep [] up = tt
kept_there keep (row ∷ rows) up = (
  by_test (keep row)
      (λ k. rw (k, same_id row) refl)
      (λ k. rw k (not_later keep row.id rows up.0)),
  all_both (λ (later : ListenerRow). row.id < later.id) (λ (later : ListenerRow). is_listener later.id (filter keep rows) ≡ keep later)
      (λ (later : ListenerRow). is_listener later.id (filter keep (row ∷ rows)) ≡ keep later)
      (λ later above is. by_test (keep row)
      (λ k.
      let other : (row.id == later.id) ≡ false = grind (arith, nat_tests, above) in
      rw (k, other) is)
      (λ k. rw k is))
      rows up.0 (kept_there keep rows up.1),
)

filter_by : (f g : ListenerRow → Bool) (rows : List ListenerRow) → AllByRecursion (λ (row : ListenerRow). f row ≡ g row) rows
    → filter (λ (row : ListenerRow). not (f row)) rows ≡ filter (λ (row : ListenerRow). not (g row)) rows
filter_by f g [] all = refl
filter_by f g (row ∷ rows) all =
    let ih = filter_by f g rows all.1 in
    by_test (g row)
    (λ k. rw (all.0, k) ih)
    (λ k. rw (all.0, k) (ap (λ (rest : List ListenerRow). row ∷ rest) ih))

-- some are left: the others end
pub between_ended : (keep : ListenerRow → Bool) (rows : List ListenerRow) (cs : List Candidate) → Ascend (λ (row : ListenerRow). row.id) rows
    → between rows (filter keep rows) cs cs ≡ listener_ends (filter (λ (row : ListenerRow). not (keep row)) rows)
between_ended keep rows cs up =
    let there = all_filter (λ (row : ListenerRow). is_listener row.id rows ≡ true) keep rows (all_there rows) in
    let quiet : turned (λ row. is_listener row.id rows && status cs row) (status cs) (filter keep rows) ≡ [] =
    turned_there rows (status cs) (status cs) (filter keep rows) there ∙ turned_same (status cs) (filter keep rows) in
    ap (λ (fx : List Effect). listener_ends (filter (λ (row : ListenerRow). not (is_listener row.id (filter keep rows))) rows) ++ fx) quiet
    ∙ append_none _
    ∙ ap listener_ends (filter_by (λ row. is_listener row.id (filter keep rows)) keep rows (kept_there keep rows up))

not_not : (b : Bool) → not (not b) ≡ b
not_not true = refl
not_not false = refl

-- those that pass a test end
pub between_without : (test : ListenerRow → Bool) (rows : List ListenerRow) (cs : List Candidate) → Ascend (λ (row : ListenerRow). row.id) rows
    → between rows (filter (λ (row : ListenerRow). not (test row)) rows) cs cs ≡ listener_ends (filter test rows)
between_without test rows cs up =
    between_ended (λ row. not (test row)) rows cs up ∙ (λ i. listener_ends (filter (λ row. not_not (test row) i) rows))

-- a listener among others and one more
there_more : (id : ℕ) (rows : List ListenerRow) (row : ListenerRow) → is_listener id rows ≡ true → is_listener id (rows ++ row ∷ []) ≡ true
there_more id [] row h = absurd (cc)
there_more id (r ∷ rows) row h =
    by_test (r.id == id) (λ k. rw k refl) (λ k. rw k (there_more id rows row (rw k at h)))

turned_push : (p q : ListenerRow → Bool) (rows : List ListenerRow) (row : ListenerRow) → turned p q (rows ++ row ∷ []) ≡ turned p q rows ++ turned p q (row ∷ [])
turned_push p q [] row = refl
turned_push p q (r ∷ rows) row =
    let ih = turned_push p q rows row in
    by_test (differ (p r) (q r))
    (λ k. rw k (ap (λ (rest : List Effect). Matching r.id (q r) ∷ rest) ih))
    (λ k. rw k ih)

pub not_there : (id : ℕ) (rows : List ListenerRow) → AllByRecursion (λ (row : ListenerRow). row.id < id) rows → is_listener id rows ≡ false
not_there id [] all = refl
not_there id (row ∷ rows) all =
    let other : (row.id == id) ≡ false = grind (arith, nat_tests, all.0) in
    rw other (not_there id rows all.1)

-- one more, of a number above all others: it hears where anyone matches
pub between_added : (rows : List ListenerRow) (row : ListenerRow) (cs : List Candidate) → AllByRecursion (λ (r : ListenerRow). r.id < row.id) rows
    → between rows (rows ++ row ∷ []) cs cs ≡ (if status cs row then Matching row.id true ∷ [] else [])
between_added rows row cs under =
    let there = all_there rows in
    let before : ListenerRow → Bool = λ r. is_listener r.id rows && status cs r in
    let none : filter (λ (r : ListenerRow). not (is_listener r.id (rows ++ row ∷ []))) rows ≡ [] =
    none_end (rows ++ row ∷ []) rows (all_weaker (λ (r : ListenerRow). is_listener r.id rows ≡ true) (λ (r : ListenerRow). is_listener r.id (rows ++ row ∷ []) ≡ true) (λ r h. there_more r.id rows row h) rows there) in
    let others : turned before (status cs) rows ≡ [] = turned_there rows (status cs) (status cs) rows there ∙ turned_same (status cs) rows in
    let new : is_listener row.id rows ≡ false = not_there row.id rows under in
    let its : turned before (status cs) (row ∷ []) ≡ (if status cs row then Matching row.id true ∷ [] else []) =
    by_test (status cs row) (λ k. rw (new, k) (ap (λ (b : Bool). Matching row.id b ∷ []) k)) (λ k. rw (new, k) refl) in
    ap (λ (ends : List ListenerRow). listener_ends ends ++ turned before (status cs) (rows ++ row ∷ [])) none
    ∙ turned_push before (status cs) rows row
    ∙ ap (λ (fx : List Effect). fx ++ turned before (status cs) (row ∷ [])) others
    ∙ its

-- as effects
abbrev as_effect : Heard → Effect
as_effect h = Matching h.id h.matching

recounts_as_effects : (rs : List Recount) → map heard_effect rs ≡ map as_effect (map heard rs)
recounts_as_effects [] = refl
recounts_as_effects (r ∷ rs) = ap (λ (rest : List Effect). heard_effect r ∷ rest) (recounts_as_effects rs)

statuses_as_effects : (cs : List Candidate) (rows : List ListenerRow) → map as_effect (map (told_of cs) rows) ≡ map (λ (row : ListenerRow). Matching row.id (status cs row)) rows
statuses_as_effects cs [] = refl
statuses_as_effects cs (row ∷ rows) = ap (λ (rest : List Effect). Matching row.id (status cs row) ∷ rest) (statuses_as_effects cs rows)

-- what is pushed is what those hear whose status turns
pub heard_lines : (goes comes : Option Candidate) (old new : List Candidate) (ls : List Listener) → Moves goes comes old new → AreCounted old ls
    → map heard_effect (filter is_heard (recounts goes comes ls)) ≡ turned (status old) (status new) (map (λ (l : Listener). l.row) ls)
heard_lines goes comes old new ls m all =
    recounts_as_effects (filter is_heard (recounts goes comes ls))
    ∙ ap (map as_effect) (heard_turned goes comes old new ls m all)
    ∙ statuses_as_effects new (filter (λ (row : ListenerRow). differ (status old row) (status new row)) (map (λ (l : Listener). l.row) ls))

-- and what the tables make of it
pub heard_between : (goes comes : Option Candidate) (old new : List Candidate) (ls : List Listener) → Moves goes comes old new → AreCounted old ls
    → map heard_effect (filter is_heard (recounts goes comes ls)) ≡ between (map (λ (l : Listener). l.row) ls) (map (λ (l : Listener). l.row) ls) old new
heard_between goes comes old new ls m all =
    heard_lines goes comes old new ls m all ∙ sym (between_moved (map (λ (l : Listener). l.row) ls) old new)

-- where nothing changes for listeners nothing is added
pub quiet : (fx : List Effect) (rows : List ListenerRow) (cs : List Candidate) → fx ≡ fx ++ between rows rows cs cs
quiet fx rows cs = sym (ap (λ (more : List Effect). fx ++ more) (between_same rows cs) ∙ append_none fx)

-- one more hears where the count of those that match is not zero
first_hears : (rows : List ListenerRow) (row : ListenerRow) (cs : List Candidate) (n : ℕ) → n ≡ count_of cs row → AllByRecursion (λ (r : ListenerRow). r.id < row.id) rows
    → between rows (rows ++ row ∷ []) cs cs ≡ (if nat_lt 0 n then Matching row.id true ∷ [] else [])
first_hears rows row cs n is under =
    between_added rows row cs under
    ∙ ap (λ (b : Bool). if b then Matching row.id true ∷ [] else []) (status_counted cs row ∙ ap (nat_lt 0) (sym is))

pub first_unmatched : (fx : List Effect) (rows : List ListenerRow) (row : ListenerRow) (cs : List Candidate) (n : ℕ) → n ≡ count_of cs row → AllByRecursion (λ (r : ListenerRow). r.id < row.id) rows → n ≡ 0
    → fx ≡ fx ++ between rows (rows ++ row ∷ []) cs cs
first_unmatched fx rows row cs n is under zero =
    let none : nat_lt 0 n ≡ false = grind (arith, nat_tests, zero) in
    sym (ap (λ (more : List Effect). fx ++ more) (first_hears rows row cs n is under ∙ rw none refl) ∙ append_none fx)

pub first_matched : (rows : List ListenerRow) (row : ListenerRow) (cs : List Candidate) (n : ℕ) → n ≡ count_of cs row → AllByRecursion (λ (r : ListenerRow). r.id < row.id) rows → n ≢ 0
    → between rows (rows ++ row ∷ []) cs cs ≡ Matching row.id true ∷ []
first_matched rows row cs n is under some =
    let any : nat_lt 0 n ≡ true = grind (arith, nat_tests, some) in
    first_hears rows row cs n is under ∙ rw any refl

-- of ascending ones none behind a number has it
none_later : (id : ℕ) (rows : List ListenerRow) → AllByRecursion (λ (row : ListenerRow). id < row.id) rows → filter (λ (row : ListenerRow). row.id == id) rows ≡ []
none_later id [] all = refl
none_later id (row ∷ rows) all =
    let other : (row.id == id) ≡ false = grind (arith, nat_tests, all.0) in
    rw other (none_later id rows all.1)

-- so one alone ends of a number that is there
one_ends : (id : ℕ) (rows : List ListenerRow) → Ascend (λ (row : ListenerRow). row.id) rows
    → listener_ends (filter (λ (row : ListenerRow). row.id == id) rows) ≡ (if is_listener id rows then End listener_kind id ∷ [] else [])
one_ends id [] up = refl
one_ends id (row ∷ rows) up =
    by_test (row.id == id)
    (λ k.
    let same : row.id ≡ id = grind (arith, nat_tests, k) in
    let rest : filter (λ (r : ListenerRow). r.id == id) rows ≡ [] = none_later id rows (all_weaker (λ (r : ListenerRow). row.id < r.id) (λ (r : ListenerRow). id < r.id) (λ r more. omega (arith, more, same)) rows up.0) in
    rw (k, rest) (ap (λ (n : ℕ). End listener_kind n ∷ []) same))
    (λ k. rw k (one_ends id rows up.1))

-- what ends of a number that is not there, and of one that is
pub none_ends : (fx : List Effect) (id : ℕ) (rows : List ListenerRow) → Ascend (λ (row : ListenerRow). row.id) rows → is_listener id rows ≡ false
    → fx ≡ fx ++ listener_ends (filter (λ (row : ListenerRow). row.id == id) rows)
none_ends fx id rows up none = sym (ap (λ (more : List Effect). fx ++ more) (one_ends id rows up ∙ rw none refl) ∙ append_none fx)

pub its_end : (id : ℕ) (rows : List ListenerRow) → Ascend (λ (row : ListenerRow). row.id) rows → is_listener id rows ≡ true
    → listener_ends (filter (λ (row : ListenerRow). row.id == id) rows) ≡ End listener_kind id ∷ []
its_end id rows up there = one_ends id rows up ∙ rw there refl
