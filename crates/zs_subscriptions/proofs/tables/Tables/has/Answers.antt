use Rattle.zs_subscriptions.proofs.tables.Tables.has.Goals as goal

pub returns : goal.returns
returns c = rw (← c.self.view_is) c.has.ensures
