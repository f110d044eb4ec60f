use Rattle.zs_query.proofs.Indexed.{cancellation_token_get}
use Rattle.zs_query.proofs.get_rows.GetRows.first_of_cancellation_token.Goals as goal

pub returns : goal.returns
returns c = rw (← c.self.view_is) (rw c.from.ensures at (cancellation_token_get c.from.result c.self.inside.rows c.self.inside.marks c.self.invariant c.first_under.result c.first_under.ensures.found))
