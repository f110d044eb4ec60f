use Rattle.std.proofs.Common.{ℕ, List, ◌++◌, ap, ◌∙◌}
use Rattle.zs_groups.specs.Sides.{Becomes}
use Rattle.zs_groups.specs.Language.{said_of, with_line}
use Rattle.zs_groups.specs.Behind.{TakesLine}
use Rattle.zs_groups.proofs.Owing.{takes_line, if_said}
use Rattle.zs_groups.proofs.sides.Sides.take_line.Goals as goal

pub returns-in_ok-add-clause-took : goal.returns-in_ok-add-clause-took
returns-in_ok-add-clause-took c is =
    let number = c.args.number in
    let old = c.args.self.now in
    let mid = c.clear.new.self in
    let new = c.take_row.new.self in
    let before = c.args.transcript.now in
    let after = c.add.new.self in
    if_said (said_of c.args.row.now) (λ said. Becomes (λ s t. with_line s number said t) mid new) (λ said. TakesLine said number old new before after)
    (λ said becomes. takes_line said number old mid new before after c.clear.ensures.rest c.clear.ensures.text becomes
    (c.in_ok-add.ensures.ok ∙ ap (λ (more : List ℕ). before ++ more) c.printed.ensures))
    (c.in_ok-taken.ensures.took is)
