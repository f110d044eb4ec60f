use Rattle.zs_subscriptions.proofs.number_rows.NumberRows.reserve.Goals as goal

pub reserve_lists-requires : goal.reserve_lists-requires
reserve_lists-requires c = c.self.invariant

pub invariant_of-self : goal.invariant_of-self
invariant_of-self c = c.reserve_lists.ensures.rows

pub returns-clause-same : goal.returns-clause-same
returns-clause-same c = rw (← c.self.view_is) c.reserve_lists.ensures.same

pub returns-clause-room : goal.returns-clause-room
returns-clause-room c = c.reserve_lists.ensures.room
