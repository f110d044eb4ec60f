use Rattle.std.proofs.Common.{◌≡◌, ℕ, List, IfOk, ap, ◌∙◌, subst}
use Rattle.zs_liveliness.specs.LivelinessGets.{over_at}
use Rattle.zs_liveliness.proofs.Asking.{over_numbers}
use Rattle.zs_liveliness.proofs.asking_gets.AskingGets.over_at.Goals as goal

pub returns : goal.returns
returns c = subst (λ (xs : List ℕ). IfOk c.list_of.result (λ numbers. numbers.items ≡ xs))
    (over_numbers c.args.now c.in_ok-over.over c.self.inside.gets c.self.inside.marks c.self.invariant c.list_of.ensures.ascending c.in_ok-over.ensures ∙ ap (over_at c.args.now) c.self.view_is) c.list_of.ensures.list
