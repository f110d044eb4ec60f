use Rattle.std.proofs.Common.{ap, ◌∙◌}
use Rattle.zs_delivery.specs.declared.side.LinkSide.{LinkSide}
use Rattle.zs_groups.specs.Sides.{heard_delivered}
use Rattle.zs_groups.proofs.Steps.{delivers_oldest}
use Rattle.zs_groups.proofs.sides.Sides.deliver.Goals as goal

pub returns-in-Ok : goal.returns-in-Ok
returns-in-Ok c =
    delivers_oldest c.args.from c.args.self.now c.hear_delivered.new.self c.deliver.new.self c.in_ok-delivered.delivered c.in_ok-delivered.ensures.ok
    (c.in-Ok.ensures ∙ ap (λ (side : LinkSide). heard_delivered side c.in_ok-delivered.delivered (record c.args.self.now { world = c.deliver.new.self })) c.opposite.ensures)
