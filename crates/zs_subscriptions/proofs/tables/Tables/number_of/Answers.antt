use Rattle.std.proofs.Common.{◌∙◌}
use Rattle.zs_subscriptions.proofs.Indexing.{first_is_least}
use Rattle.zs_subscriptions.proofs.tables.Tables.number_of.Goals as goal

pub returns : goal.returns
returns c =
    rw (← c.self.view_is) (c.first_number.ensures ∙ first_is_least _ c.self.inside.texts c.args.text.now c.self.invariant.indexed)
