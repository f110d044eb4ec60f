use Rattle.std.proofs.Common.{sym, ap, ◌∙◌}
use Rattle.zs_rows.specs.Rows.{rows_of}
use Rattle.zs_query.specs.Gets.{get_at, without_get}
use Rattle.zs_query.proofs.Indexed.{indexed_kept, indexed_take, gets_found, gets_without}
use Rattle.zs_query.proofs.get_rows.GetRows.take.Goals as goal

pub invariant_of-self : goal.invariant_of-self
invariant_of-self c = indexed_kept c.args.number c.self.inside.rows c.remove.new.self c.self.inside.marks c.self.invariant (sym c.in_default.ensures.row) c.remove.ensures.rows c.remove.ensures.found c.remove.ensures.ascending

pub returns-in_default-clause-get : goal.returns-in_default-clause-get
returns-in_default-clause-get c = c.in_default.ensures.row ∙ (gets_found c.args.number c.self.inside.rows c.self.inside.marks c.self.invariant ∙ ap (get_at c.args.number) c.self.view_is)

pub returns-in_default-clause-gets : goal.returns-in_default-clause-gets
returns-in_default-clause-gets c = ap rows_of c.remove.ensures.rows ∙ (gets_without c.args.number c.self.inside.rows c.self.inside.marks c.self.invariant ∙ ap (without_get c.args.number) c.self.view_is)

pub invariant_of-self-2 : goal.invariant_of-self-2
invariant_of-self-2 c = indexed_take c.args.number c.keys.result c.in-Some.get c.self.inside.rows c.remove.new.self c.self.inside.marks c.forget.new.self c.keys.ensures c.self.invariant (sym c.in-Some.ensures.row) c.remove.ensures.rows c.remove.ensures.found c.remove.ensures.ascending c.forget.ensures

pub returns-clause-get : goal.returns-clause-get
returns-clause-get c = c.in-Some.ensures.row ∙ (gets_found c.args.number c.self.inside.rows c.self.inside.marks c.self.invariant ∙ ap (get_at c.args.number) c.self.view_is)

pub returns-clause-gets : goal.returns-clause-gets
returns-clause-gets c = ap rows_of c.remove.ensures.rows ∙ (gets_without c.args.number c.self.inside.rows c.self.inside.marks c.self.invariant ∙ ap (without_get c.args.number) c.self.view_is)
