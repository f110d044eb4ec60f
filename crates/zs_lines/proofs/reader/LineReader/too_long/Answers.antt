use Rattle.std.proofs.Common.{refl}
use Rattle.zs_lines.proofs.Answering.{keeps_same}
use Rattle.zs_lines.proofs.FirstLine.{long-rest}
use Rattle.zs_lines.proofs.reader.LineReader.too_long.Goals as goal

pub returns-in-Ok-clause-answer : goal.returns-in-Ok-clause-answer
returns-in-Ok-clause-answer c = (cc c.in-Ok.ensures.ok, long-rest c.args.self.now c.requires.whole c.requires.long, keeps_same c.args.self.now c.args.self.now refl)

pub returns-in-Err-clause-answer : goal.returns-in-Err-clause-answer
returns-in-Err-clause-answer c = keeps_same c.args.self.now c.args.self.now refl
