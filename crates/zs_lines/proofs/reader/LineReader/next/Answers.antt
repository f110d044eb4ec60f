use Rattle.std.proofs.Common.{Err}
use Rattle.zs_lines.proofs.Answering.{answers-on, reads-none}
use Rattle.zs_lines.proofs.reader.LineReader.next.Goals as goal

pub returns-in-Some-clause-answer : goal.returns-in-Some-clause-answer
returns-in-Some-clause-answer g c =
    let loop = c.reads.invariant in
    let on = answers-on c.args.self.now c.reads.self c.find_line_feed.new.self c.give_line.new.self loop.read.0 c.give_line.result
    c.find_line_feed.ensures.same loop.read.3 loop.given loop.line_max loop.read.2 c.give_line.ensures.reads c.give_line.ensures.answer in
    (loop.read.0, loop.read.1, on.0, on.1)

pub returns-then-held_len-self-clause-answer : goal.returns-then-held_len-self-clause-answer
returns-then-held_len-self-clause-answer g c =
    let loop = c.reads.invariant in
    let on = answers-on c.args.self.now c.reads.self c.find_line_feed.new.self c.find_line_feed.new.self loop.read.0 (Err c.too_long.result)
    c.find_line_feed.ensures.same loop.read.3 loop.given loop.line_max loop.read.2 (reads-none c.find_line_feed.new.self) c.too_long.ensures.answer in
    (loop.read.0, loop.read.1, on.0, on.1)

pub returns-clause-answer : goal.returns-clause-answer
returns-clause-answer g c =
    let loop = c.reads.invariant in
    let on = answers-on c.args.self.now c.reads.self c.find_line_feed.new.self c.give_rest.new.self loop.read.0 c.give_rest.result
    c.find_line_feed.ensures.same loop.read.3 loop.given loop.line_max loop.read.2 c.give_rest.ensures.reads c.give_rest.ensures.answer in
    (loop.read.0, loop.read.1, on.0, on.1)
