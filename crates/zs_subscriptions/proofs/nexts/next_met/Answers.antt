use Rattle.std.proofs.Common.{◌≡◌, Some, None, true, false, sym, ap, ◌∙◌}
use Rattle.zs_subscriptions.specs.NumberRows.{is_met}
use Rattle.zs_subscriptions.proofs.Stepping.{first_such, such_skipped, such_found, next_such}
use Rattle.zs_subscriptions.proofs.nexts.next_met.Goals as goal

pub loop-number-init : goal.loop-number-init
loop-number-init c = (tt, tt, ap (first_such (is_met c.args.key.now.text)) (c.into_iter-number-iterator.ensures.into_iter_gives ∙ c.iter_behind-number-items.ensures.rest))

pub loop-number-preserved : goal.loop-number-preserved
loop-number-preserved c =
    let fails : is_met c.args.key.now.text c.in-Some.row.now ≡ false = sym c.if-meets.ensures in
    (tt, tt, such_skipped (is_met c.args.key.now.text) (c.in-Some.number.now, c.in-Some.row.now) _ _ c.in-Some.ensures.steps fails ∙ c.loop-number.invariant.2)

pub returns-then-meets : goal.returns-then-meets
returns-then-meets c =
    let passes : is_met c.args.key.now.text c.in-Some.row.now ≡ true = sym c.if-meets.ensures in
    next_such (is_met c.args.key.now.text) c.args.after (Some (c.in-Some.number.now, c.in-Some.row.now)) c.args.rows.now c.requires.ascending
    (such_found (is_met c.args.key.now.text) (c.in-Some.number.now, c.in-Some.row.now) _ _ c.in-Some.ensures.steps passes ∙ c.loop-number.invariant.2)

pub returns : goal.returns
returns c = next_such (is_met c.args.key.now.text) c.args.after None c.args.rows.now c.requires.ascending (sym (ap (first_such (is_met c.args.key.now.text)) c.in-None.ensures.steps.0) ∙ c.loop-number.invariant.2)
