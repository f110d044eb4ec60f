use Rattle.std.proofs.Common.{◌≡◌, ℕ, List, IfOk, ap, ◌∙◌, subst}
use Rattle.zs_liveliness.specs.LivelinessGets.{numbers_with}
use Rattle.zs_liveliness.proofs.Asking.{cancelled_numbers}
use Rattle.zs_liveliness.proofs.asking_gets.AskingGets.numbers_with.Goals as goal

pub returns : goal.returns
returns c = subst (λ (xs : List ℕ). IfOk c.numbers_under.result (λ numbers. numbers.items ≡ xs))
    (rw c.from.ensures at (cancelled_numbers c.from.result c.self.inside.gets c.self.inside.marks c.self.invariant c.numbers_under.ensures.ascending ∙ ap (numbers_with c.from.result) c.self.view_is)) (rw c.from.ensures at c.numbers_under.ensures.numbers)
