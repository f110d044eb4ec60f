use Rattle.zs_rows.specs.Index.{is_marked_up_to}
use Rattle.zs_rows.proofs.Marking.{walk_ends, walk_more, walk_sorted}
use Rattle.zs_rows.proofs.index.numbers_up_to.Goals as goal

pub returns-then-mark-end : goal.returns-then-mark-end
returns-then-mark-end c = λ n. walk_ends c.args.end n c.in-Some.mark.now c.next.new.self c.loop-mark.mark-iterator c.loop-mark.numbers (is_marked_up_to c.args.end n c.args.marks.now.keys) c.in-Some.ensures.steps c.loop-mark.invariant.3 c.if-mark-end.true (c.loop-mark.invariant.2 n)

pub loop-mark-preserved : goal.loop-mark-preserved
loop-mark-preserved c = (tt, tt, λ n. walk_more c.args.end n c.in-Some.mark.now c.next.new.self c.loop-mark.mark-iterator c.loop-mark.numbers c.insert.new.self (is_marked_up_to c.args.end n c.args.marks.now.keys) c.in-Some.ensures.steps c.if-mark-end.false (c.in_ok-insert.ensures.ok n) (c.loop-mark.invariant.2 n), walk_sorted c.in-Some.mark.now c.next.new.self c.loop-mark.mark-iterator c.in-Some.ensures.steps c.loop-mark.invariant.3)
