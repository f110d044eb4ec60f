use Rattle.std.proofs.Common.{sym, ap, ◌∙◌}
use Rattle.std.specs.Prelude.{◌==◌, is_some}
use Rattle.zs_keyed.proofs.Ascending.{found_any}
use Rattle.zs_subscriptions.proofs.Indexing.{list_ascends, lists_same, lists_moved}
use Rattle.zs_subscriptions.proofs.own.set_own.Goals as goal

pub add_own-requires-clause-order : goal.add_own-requires-clause-order
add_own-requires-clause-order c = c.in_default.ensures.ascending

pub add_own-requires-clause-unused : goal.add_own-requires-clause-unused
add_own-requires-clause-unused c = sym (found_any (λ row. row.number == c.args.new.number) c.args.own.now) ∙ sym (ap is_some c.in_default.ensures.row)

pub add_own-requires-clause-texts : goal.add_own-requires-clause-texts
add_own-requires-clause-texts c = c.requires

pub move_text-requires-clause-old : goal.move_text-requires-clause-old
move_text-requires-clause-old c = list_ascends c.args.own.now _ _ c.in-Some.ensures.ascending c.requires

pub move_text-requires-clause-new : goal.move_text-requires-clause-new
move_text-requires-clause-new c = list_ascends c.args.own.now _ _ c.in-Some.ensures.ascending c.requires

pub returns-in_err-move_text-clause-texts : goal.returns-in_err-move_text-clause-texts
returns-in_err-move_text-clause-texts c = lists_same c.args.own.now c.args.texts.now _ c.requires c.in_err-move_text.ensures.err

pub write_over-requires : goal.write_over-requires
write_over-requires c = sym (found_any (λ row. row.number == c.args.new.number) c.args.own.now) ∙ sym (ap is_some c.in-Some.ensures.row)

pub returns-clause-texts : goal.returns-clause-texts
returns-clause-texts c =
    let moves = rw (c.as_str.ensures.text, c.as_str-2.ensures.text) at c.in_ok-move_text.ensures.ok in
    rw c.write_over.ensures (lists_moved c.args.new c.in-Some.old.now c.args.own.now c.args.texts.now _ c.in-Some.ensures.ascending c.in-Some.ensures.row c.requires moves)
