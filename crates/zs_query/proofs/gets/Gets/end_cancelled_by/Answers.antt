use Rattle.std.proofs.Common.{sym, ap, ◌∙◌}
use Rattle.std.specs.Prelude.{filter, not}
use Rattle.zs_query.specs.declared.open_get.OpenGet.{OpenGet}
use Rattle.zs_query.specs.Gets.{names}
use Rattle.zs_query.proofs.gets.Gets.end_cancelled_by.Goals as goal

pub gets-init : goal.gets-init
gets-init c = ap (filter (λ (g : OpenGet). not (names c.args.cancellation_token g.row.cancellation_token))) c.self.view_is

pub gets-preserved : goal.gets-preserved
gets-preserved c = ap (filter (λ (g : OpenGet). not (names c.args.cancellation_token g.row.cancellation_token))) c.end_get-open.ensures.gets ∙ (c.in-Some.ensures.0 ∙ c.gets.invariant)

pub gets-smaller : goal.gets-smaller
gets-smaller c = rw c.end_get-open.ensures.gets c.in-Some.ensures.1

pub returns : goal.returns
returns c = sym c.in_default.ensures ∙ c.gets.invariant
