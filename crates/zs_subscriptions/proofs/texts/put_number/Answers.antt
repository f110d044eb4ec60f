use Rattle.std.proofs.Common.{◌∙◌}
use Rattle.zs_subscriptions.proofs.Searching.{insert_here}
use Rattle.zs_subscriptions.proofs.Indexing.{placed_there}
use Rattle.zs_subscriptions.proofs.texts.put_number.Goals as goal

pub returns-in-Ok-clause-ok : goal.returns-in-Ok-clause-ok
returns-in-Ok-clause-ok c =
    let place = rw c.deref.ensures.value at c.in-Ok.ensures in
    placed_there c.args.number _ _ c.requires place.0 (place.1 c.args.number)

pub returns-in_ok-insert-in-Err-clause-ok : goal.returns-in_ok-insert-in-Err-clause-ok
returns-in_ok-insert-in-Err-clause-ok c =
    c.in_ok-insert-in-Err.ensures.items ∙ insert_here (λ n. n) c.args.number _ _ (rw c.deref.ensures.value at c.in-Err.ensures)
