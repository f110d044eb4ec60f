use Rattle.std.proofs.Common.{◌≡◌, false}
use Rattle.zs_gate.specs.declared.view.View.TheVariants.{Keeper}
use Rattle.zs_gate.specs.declared.view.Phase.TheVariants.{Draining}
use Rattle.zs_gate.specs.Views.{looks_of, count_of}
use Rattle.zs_gate.proofs.keeper.Draining.wait.Given as goal

abbrev pub invariant-loop : goal.invariant-loop
invariant-loop g l =
    (l.post.gate ≡ l.initial.post.gate) × (l.post.knows ≡ Keeper false (Draining (looks_of l.post.knows) (count_of l.post.knows)))
