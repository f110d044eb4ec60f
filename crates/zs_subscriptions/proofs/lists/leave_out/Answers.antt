use Rattle.std.proofs.Common.{sym, ◌∙◌}
use Rattle.zs_subscriptions.proofs.Searching.{missing, filter_none, remove_here}
use Rattle.zs_subscriptions.proofs.lists.leave_out.Goals as goal

pub returns-in_default : goal.returns-in_default
returns-in_default c =
    sym (filter_none (λ id. id) c.args.id _ (missing (λ id. id) c.args.id _ _ (rw c.deref.ensures.value at c.in_default.ensures)))

pub returns : goal.returns
returns c =
    let place = rw c.deref.ensures.value at c.in-Ok.ensures in
    c.remove.ensures.items ∙ remove_here (λ id. id) c.args.id _ _ c.requires place.0 place.1
