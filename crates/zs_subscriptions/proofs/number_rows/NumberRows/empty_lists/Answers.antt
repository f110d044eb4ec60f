use Rattle.zs_subscriptions.proofs.number_rows.NumberRows.empty_lists.Goals as goal

pub empty_lists-requires : goal.empty_lists-requires
empty_lists-requires c = c.self.invariant

pub invariant_of-self : goal.invariant_of-self
invariant_of-self c = c.empty_lists.ensures.rows

pub returns : goal.returns
returns c = rw (← c.self.view_is) c.empty_lists.ensures.lists
