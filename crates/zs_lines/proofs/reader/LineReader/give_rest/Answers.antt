use Rattle.std.proofs.Common.{arith}
use Rattle.zs_lines.proofs.FirstLine.{given-rest, long-rest}
use Rattle.zs_lines.proofs.Answering.{answers-error}
use Rattle.zs_lines.proofs.reader.LineReader.give_rest.Goals as goal

pub returns-in_err-give-clause-answer : goal.returns-in_err-give-clause-answer
returns-in_err-give-clause-answer c =
    let given = c.give.ensures in
    let is = c.held_len-count.ensures in
    answers-error c.args.self.now c.give.new.self c.give.result c.from_residual.result _ c.in_err-give.was c.from_residual.ensures.1
    (λ n same. let long = given.too_long n same in (long.0, long-rest c.args.self.now c.requires.whole (omega (arith, long.1)))) given.other.0 c.in_err-give.ensures.err

pub returns-clause-answer : goal.returns-clause-answer
returns-clause-answer c =
    let given = c.in_ok-give.ensures in
    given-rest c.args.self.now c.give.new.self c.held_len-count.result _ _ c.requires.whole c.requires.ended
    (omega arith) (omega arith) given.bytes given.number given.short given.after
