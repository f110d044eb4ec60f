use Rattle.std.proofs.Common.{◌∙◌}
use Rattle.zs_query.specs.GetRows.{cancellation_token_of}
use Rattle.zs_query.proofs.Indexed.{next_of_key, gets_ascend}
use Rattle.zs_query.proofs.get_rows.GetRows.next_of_cancellation_token.Goals as goal

pub returns-clause-next : goal.returns-clause-next
returns-clause-next c =
    c.row_of.ensures ∙ rw c.from.ensures at (next_of_key cancellation_token_of c.from.result c.args.after c.self.inside.rows c.self.inside.marks.cancellation_tokens c.args.self.now c.next_of-number.result
    c.self.invariant.numbered c.self.invariant.ascending c.self.invariant.cancellation_tokens c.next_of-number.ensures.ascending c.self.view_is c.next_of-number.ensures.next)

pub returns-clause-ascending : goal.returns-clause-ascending
returns-clause-ascending c = rw (← c.self.view_is) (gets_ascend c.self.inside.rows c.self.inside.marks c.self.invariant)
