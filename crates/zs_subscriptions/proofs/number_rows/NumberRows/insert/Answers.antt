use Rattle.std.proofs.Common.{◌∙◌, ap}
use Rattle.zs_rows.specs.Rows.{rows_of}
use Rattle.zs_subscriptions.proofs.Indexing.{always_err}
use Rattle.zs_subscriptions.proofs.Listing.{rows_same}
use Rattle.zs_subscriptions.proofs.Numbering.{number_there, put_is, put_are}
use Rattle.zs_subscriptions.proofs.number_rows.NumberRows.insert.Goals as goal

pub insert-requires : goal.insert-requires
insert-requires c = rw c.from.ensures (number_there c.args.row.number c.self.inside.rows c.args.self.now c.self.invariant c.self.view_is ∙ c.requires)

pub invariant_of-self : goal.invariant_of-self
invariant_of-self c = rows_same c.self.inside.rows _ c.self.invariant c.in_err-insert.ensures.err

pub returns-in_err-insert-clause-err : goal.returns-in_err-insert-clause-err
returns-in_err-insert-clause-err c = always_err c.from_residual.result (ap rows_of c.in_err-insert.ensures.err ∙ c.self.view_is)

pub invariant_of-self-2 : goal.invariant_of-self-2
invariant_of-self-2 c = put_are c.args.row c.self.inside.rows _ c.self.invariant (rw c.from.ensures at c.in_ok-insert.ensures.rows) c.in_ok-insert.ensures.ascending

pub returns-clause-ok : goal.returns-clause-ok
returns-clause-ok c = put_is c.args.row c.self.inside.rows _ c.args.self.now c.self.invariant c.self.view_is c.requires (rw c.from.ensures at c.in_ok-insert.ensures.rows)
