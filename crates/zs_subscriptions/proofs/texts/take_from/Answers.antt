use Rattle.std.proofs.Common.{rules}
use Rattle.zs_subscriptions.proofs.Indexing.{left_in}
use Rattle.zs_subscriptions.proofs.texts.take_from.Goals as goal

pub returns-clause-left : goal.returns-clause-left
returns-clause-left c =
    let now = c.take_number.new.numbers in
    left_in c.args.texts.now _ c.args.text.now c.args.number c.in-Some.numbers.now now c.in-Some.ensures.value ((c.get_mut.follows.holds now).3 (search rules)) c.take_number.ensures
