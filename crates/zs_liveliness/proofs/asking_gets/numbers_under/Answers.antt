use Rattle.zs_rows.specs.Index.{under}
use Rattle.zs_rows.proofs.Listing.{all_behind}
use Rattle.zs_liveliness.proofs.Behind.{walk_more, walk_less, walk_all}
use Rattle.zs_liveliness.proofs.asking_gets.numbers_under.Goals as goal

pub numbers-init : goal.numbers-init
numbers-init c = rw c.new-numbers.ensures.items (all_behind (under c.args.key c.args.index.now))

pub numbers-preserved : goal.numbers-preserved
numbers-preserved c = rw c.in_ok-push.ensures.items (walk_more c.numbers.after c.in-Some.number c.numbers.numbers.items (under c.args.key c.args.index.now) c.in-Some.ensures.ascending c.in-Some.ensures.next c.numbers.invariant)

pub numbers-smaller : goal.numbers-smaller
numbers-smaller c = walk_less c.numbers.after c.in-Some.number (under c.args.key c.args.index.now) c.in-Some.ensures.ascending c.in-Some.ensures.next

pub returns-clause-numbers : goal.returns-clause-numbers
returns-clause-numbers c = walk_all c.numbers.after c.numbers.numbers.items (under c.args.key c.args.index.now) c.in_default.ensures.next c.numbers.invariant

pub returns-clause-ascending : goal.returns-clause-ascending
returns-clause-ascending c = c.in_default.ensures.ascending
