use Rattle.zs_subscriptions.proofs.number_rows.NumberRows.note.Goals as goal

pub note_id-requires-clause-rows : goal.note_id-requires-clause-rows
note_id-requires-clause-rows c = c.self.invariant

pub note_id-requires-clause-room : goal.note_id-requires-clause-room
note_id-requires-clause-room c = rw c.self.view_is c.requires

pub invariant_of-self : goal.invariant_of-self
invariant_of-self c = c.note_id.ensures.rows

pub returns : goal.returns
returns c = rw (← c.self.view_is) c.note_id.ensures.lists
