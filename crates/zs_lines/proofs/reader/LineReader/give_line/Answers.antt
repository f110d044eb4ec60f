use Rattle.zs_lines.proofs.FirstLine.{given-line, long-line}
use Rattle.zs_lines.proofs.Answering.{answers-error}
use Rattle.zs_lines.proofs.reader.LineReader.give_line.Goals as goal

pub returns-in_err-give-clause-answer : goal.returns-in_err-give-clause-answer
returns-in_err-give-clause-answer c =
    let given = c.give.ensures in
    answers-error c.args.self.now c.give.new.self c.give.result c.from_residual.result _ c.in_err-give.was c.from_residual.ensures.1
    (λ n same. let long = given.too_long n same in (long.0, long-line c.args.self.now c.args.place c.requires long.1)) given.other.0 c.in_err-give.ensures.err

pub returns-clause-answer : goal.returns-clause-answer
returns-clause-answer c =
    let given = c.in_ok-give.ensures in
    given-line c.args.self.now c.give.new.self c.args.place _ _ c.requires given.bytes given.number given.short given.after
