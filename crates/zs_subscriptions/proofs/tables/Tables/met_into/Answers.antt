use Rattle.zs_subscriptions.proofs.tables.Tables.met_into.Goals as goal

pub returns-clause-ok : goal.returns-clause-ok
returns-clause-ok g c = rw (← c.self.view_is) c.counted_matches_into.ensures.ok
