use Rattle.std.proofs.Common.{sym}
use Rattle.zs_tree.proofs.Gaps.{narrows_open, narrows_below, narrows_same}
use Rattle.zs_tree.proofs.gap.nearer.Goals as goal

pub returns-in-Open : goal.returns-in-Open
returns-in-Open c = rw c.in-Open.is (narrows_open c.args.code.now c.args.chunk c.requires.plain c.requires.before)

pub returns-then-is_before : goal.returns-then-is_before
returns-then-is_before c =
    let order = rw (c.as_bytes.ensures.value, c.as_bytes-in-Below.ensures.value) at c.if-is_before.ensures in
    rw c.in-Below.is (narrows_below c.args.code.now c.args.chunk c.in-Below.other c.requires.plain c.requires.before (sym order))

pub returns-else-is_before : goal.returns-else-is_before
returns-else-is_before c =
    let order = rw (c.as_bytes.ensures.value, c.as_bytes-in-Below.ensures.value) at c.if-is_before.ensures in
    rw c.in-Below.is (narrows_same c.args.code.now c.args.chunk c.in-Below.other c.requires.plain (rw c.in-Below.is at c.requires.inside) (sym order))
