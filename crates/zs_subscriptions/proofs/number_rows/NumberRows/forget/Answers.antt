use Rattle.zs_subscriptions.proofs.number_rows.NumberRows.forget.Goals as goal

pub forget_id-requires-clause-rows : goal.forget_id-requires-clause-rows
forget_id-requires-clause-rows c = c.self.invariant

pub forget_id-requires-clause-lists : goal.forget_id-requires-clause-lists
forget_id-requires-clause-lists c = rw c.self.view_is c.requires

pub invariant_of-self : goal.invariant_of-self
invariant_of-self c = c.forget_id.ensures.rows

pub returns : goal.returns
returns c = rw (← c.self.view_is) c.forget_id.ensures.lists
