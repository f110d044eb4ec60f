use Rattle.std.proofs.Common.{ap, ◌∙◌}
use Rattle.zs_gate.specs.Plays.{keeper_after_mark}
use Rattle.zs_gate.proofs.keeper.Keeper.shut.Goals as goal

pub look_alone-requires : goal.look_alone-requires
look_alone-requires c = (0, 0, ap (λ p. p.knows) c.mark.ensures ∙ ap (λ p. keeper_after_mark p.knows) c.take_door.ensures)
