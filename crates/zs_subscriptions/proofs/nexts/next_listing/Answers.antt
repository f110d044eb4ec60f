use Rattle.std.proofs.Common.{◌≡◌, ℕ, List, Some, None, true, false, sym, ap, subst, ◌∙◌}
use Rattle.std.specs.List.{AllByRecursion}
use Rattle.zs_subscriptions.specs.declared.number_row.NumberRow.{NumberRow}
use Rattle.zs_subscriptions.specs.Lists.{IsAscending}
use Rattle.zs_subscriptions.specs.NumberRows.{lists_id}
use Rattle.zs_subscriptions.proofs.Stepping.{first_such, such_skipped, such_found, next_such, behind_each}
use Rattle.zs_subscriptions.proofs.nexts.next_listing.Goals as goal

pub loop-number-init : goal.loop-number-init
loop-number-init c =
    let rest = c.into_iter-number-iterator.ensures.into_iter_gives ∙ c.iter_behind-number-items.ensures.rest in
    (tt, tt, ap (first_such (lists_id c.args.id)) rest, subst (λ (xs : List (ℕ × NumberRow)). AllByRecursion (λ e. IsAscending e.1) xs) (sym rest) (behind_each IsAscending c.args.after c.args.rows.now c.requires.rows.ascending c.requires.lists))

pub has_id-requires : goal.has_id-requires
has_id-requires c =
    rw c.deref.ensures.value (subst (λ (xs : List (ℕ × NumberRow)). AllByRecursion (λ e. IsAscending e.1) xs) c.in-Some.ensures.steps c.loop-number.invariant.3).0

pub loop-number-preserved : goal.loop-number-preserved
loop-number-preserved c =
    let fails : lists_id c.args.id c.in-Some.row.now ≡ false = sym (rw c.deref.ensures.value at c.if-has_id.ensures) in (
      tt,
      tt,
      such_skipped (lists_id c.args.id) (c.in-Some.number.now, c.in-Some.row.now) _ _ c.in-Some.ensures.steps fails ∙ c.loop-number.invariant.2,
      (subst (λ (xs : List (ℕ × NumberRow)). AllByRecursion (λ e. IsAscending e.1) xs) c.in-Some.ensures.steps c.loop-number.invariant.3).1,
    )

pub returns-then-has_id : goal.returns-then-has_id
returns-then-has_id c =
    let passes : lists_id c.args.id c.in-Some.row.now ≡ true = sym (rw c.deref.ensures.value at c.if-has_id.ensures) in
    next_such (lists_id c.args.id) c.args.after (Some (c.in-Some.number.now, c.in-Some.row.now)) c.args.rows.now c.requires.rows.ascending
    (such_found (lists_id c.args.id) (c.in-Some.number.now, c.in-Some.row.now) _ _ c.in-Some.ensures.steps passes ∙ c.loop-number.invariant.2)

pub returns : goal.returns
returns c = next_such (lists_id c.args.id) c.args.after None c.args.rows.now c.requires.rows.ascending (sym (ap (first_such (lists_id c.args.id)) c.in-None.ensures.steps.0) ∙ c.loop-number.invariant.2)
