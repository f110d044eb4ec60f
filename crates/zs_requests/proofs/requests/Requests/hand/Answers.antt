use Rattle.std.proofs.Common.{◌≡◌, ℕ, ◌+◌, false, List, length, sym, ap, ◌∙◌, subst, arith}
use Rattle.zs_rows.specs.Ascending.{placed}
use Rattle.zs_rows.specs.Index.{NotesFrom}
use Rattle.zs_rows.specs.Rows.{rows_of, from_number, AreFree}
use Rattle.zs_requests.specs.declared.query_value.QueryValue.{QueryValue}
use Rattle.zs_requests.specs.Unfinished.{Unfinished, are_used, values_from, AreInOrder}
use Rattle.zs_requests.specs.ValueRows.{AreFiled}
use Rattle.zs_requests.proofs.Requesting.{same_values}
use Rattle.zs_requests.proofs.Filed.{no_mark, unused_at, length_values, values_placed, filed_hand, hand_undone}
use Rattle.zs_requests.proofs.requests.Requests.hand.Goals as goal

pub overflow_cast-end : goal.overflow_cast-end
overflow_cast-end c = omega (arith, c.len.ensures, c.in_ok-made.made.ok.0, ap length c.in_ok-made.ensures, length_values c.args.first c.self.inside.handed c.args.request c.args.queryables.now, c.requires.numbers)

pub overflow_add-end : goal.overflow_add-end
overflow_add-end c = omega (arith, c.len.ensures, c.in_ok-made.made.ok.0, ap length c.in_ok-made.ensures, length_values c.args.first c.self.inside.handed c.args.request c.args.queryables.now, c.requires.numbers)

pub note_all-requires-clause-unused : goal.note_all-requires-clause-unused
note_all-requires-clause-unused c = no_mark c.self.inside.handed c.self.inside.values c.self.inside.requests c.self.invariant

pub insert_all-requires-clause-fits : goal.insert_all-requires-clause-fits
insert_all-requires-clause-fits c = omega (arith, ap length c.in_ok-made.ensures, length_values c.args.first c.self.inside.handed c.args.request c.args.queryables.now, c.requires.numbers)

pub insert_all-requires-clause-unused : goal.insert_all-requires-clause-unused
insert_all-requires-clause-unused c =
    let first = c.args.first in
    let end = first + length c.args.queryables.now in
    let unused : are_used first end (rows_of c.self.inside.values) ≡ false = ap (λ (u : Unfinished). are_used first end u.values) c.self.view_is ∙ c.requires.unused in
    let many : length c.in_ok-made.made.items ≡ length c.args.queryables.now = ap length c.in_ok-made.ensures ∙ length_values first c.self.inside.handed c.args.request c.args.queryables.now in
    λ q le lt. unused_at first end c.self.inside.values c.self.invariant.numbered unused q le (omega (arith, lt, many))

pub invariant_of-self-in-Err : goal.invariant_of-self-in-Err
invariant_of-self-in-Err c =
    subst (λ (rows : List (ℕ × QueryValue)). AreFiled c.self.inside.handed rows c.forget_all.new.self) (sym c.in-Err.ensures.err)
    (hand_undone c.self.inside.handed c.args.first (c.args.first + c.len.result) c.self.inside.values c.self.inside.requests c.note_all.new.self c.forget_all.new.self c.self.invariant c.in_ok-note_all.ensures.ok c.forget_all.ensures)

pub invariant_of-self-2 : goal.invariant_of-self-2
invariant_of-self-2 c =
    let first = c.args.first in
    let handed = c.self.inside.handed in
    let end = first + length c.args.queryables.now in
    let unused : are_used first end (rows_of c.self.inside.values) ≡ false = ap (λ (u : Unfinished). are_used first end u.values) c.self.view_is ∙ c.requires.unused in
    let many : length c.in_ok-made.made.items ≡ length c.args.queryables.now = ap length c.in_ok-made.ensures ∙ length_values first handed c.args.request c.args.queryables.now in
    let end_is : first + c.len.result ≡ end = omega (arith, c.len.ensures, c.in_ok-made.made.ok.0, many) in
    let made_end : first + length c.in_ok-made.made.items ≡ end = omega (arith, many) in
    let next : handed + 1 ≡ c.in-Some.handed = omega (arith, c.in-Some.ensures) in
    subst (λ (n : ℕ). AreFiled n c.insert_all.new.self c.note_all.new.self) next
    (filed_hand handed first c.args.request c.args.queryables.now c.self.inside.values c.insert_all.new.self c.self.inside.requests c.note_all.new.self c.self.invariant unused c.requires.numbers
    (subst (λ (n : ℕ). AreFree first n c.self.inside.values) made_end c.in_default-insert_all.ensures.free)
    (subst (λ (n : ℕ). NotesFrom handed first n c.self.inside.requests c.note_all.new.self) end_is c.in_ok-note_all.ensures.ok)
    (c.in_default-insert_all.ensures.ok ∙ ap (λ (vs : List QueryValue). placed (λ (e : ℕ × QueryValue). e.0) first (from_number first vs) c.self.inside.values) c.in_ok-made.ensures)
    c.in_default-insert_all.ensures.ascending)

pub returns-clause-ok : goal.returns-clause-ok
returns-clause-ok c =
    let first = c.args.first in
    let handed = c.self.inside.handed in
    let next : c.in-Some.handed ≡ handed + 1 = omega (arith, c.in-Some.ensures) in
    rw (← c.self.view_is) (same_values next
    (ap rows_of (c.in_default-insert_all.ensures.ok ∙ ap (λ (vs : List QueryValue). placed (λ (e : ℕ × QueryValue). e.0) first (from_number first vs) c.self.inside.values) c.in_ok-made.ensures)
    ∙ values_placed first (values_from first handed c.args.request c.args.queryables.now) c.self.inside.values c.self.invariant.numbered))

pub returns-clause-apart : goal.returns-clause-apart
returns-clause-apart c = subst (λ (u : Unfinished). AreInOrder u.handed u.values) c.self.view_is c.self.invariant.order
