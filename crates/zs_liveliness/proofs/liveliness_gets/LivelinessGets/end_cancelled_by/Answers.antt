use Rattle.std.proofs.Common.{sym, ap, ◌∙◌}
use Rattle.std.specs.Prelude.{filter, not}
use Rattle.zs_liveliness.specs.declared.liveliness_get.LivelinessGet.{LivelinessGet}
use Rattle.zs_liveliness.specs.LivelinessGets.{is_own}
use Rattle.zs_liveliness.proofs.liveliness_gets.LivelinessGets.end_cancelled_by.Goals as goal

pub gets-init : goal.gets-init
gets-init c = ap (filter (λ (g : LivelinessGet). not (is_own c.args.cancellation_token g.cancellation_token))) c.self.view_is

pub gets-preserved : goal.gets-preserved
gets-preserved c = ap (filter (λ (g : LivelinessGet). not (is_own c.args.cancellation_token g.cancellation_token))) c.end.ensures ∙ (c.in-Some.ensures.0 ∙ c.gets.invariant)

pub gets-smaller : goal.gets-smaller
gets-smaller c = rw c.end.ensures c.in-Some.ensures.1

pub returns : goal.returns
returns c = sym c.in_default.ensures ∙ c.gets.invariant
