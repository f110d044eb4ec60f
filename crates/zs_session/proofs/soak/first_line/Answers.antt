use Rattle.std.proofs.Common.{◌<◌, [], length, append-nil, arith}
use Rattle.std.proofs.lemmas.Bool.Decides.{nat_tests}
use Rattle.zs_lines.proofs.FirstLine.{lines-at, lines-rest}
use Rattle.zs_session.proofs.soak.first_line.Goals as goal

pub returns-in-Some-clause-line : goal.returns-in-Some-clause-line
returns-in-Some-clause-line c =
    let at = lines-at c.args.output.now [] c.in-Some.place c.in-Some.ensures in
    rw c.behind.ensures (simp append-nil at at)

pub returns-in-None-clause-line : goal.returns-in-None-clause-line
returns-in-None-clause-line c =
    let some : 0 < length c.args.output.now = grind (arith, nat_tests, c.if-is_empty.ensures) in
    lines-rest c.args.output.now c.in-None.ensures some
