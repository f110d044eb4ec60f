use Rattle.std.proofs.Common.{subst}
use Rattle.zs_events.specs.declared.event.Event.{Event}
use Rattle.std.specs.Prelude.{OnOk}
use Rattle.zs_groups.specs.Told.{with_taken}
use Rattle.zs_groups.specs.Sides.{Becomes}
use Rattle.zs_groups.proofs.sides.Sides.join.Goals as goal

pub returns : goal.returns
returns c =
    subst (λ (e : Event). OnOk c.take_told-told.result (Becomes (λ s t. with_taken s c.args.number c.args.side e t) c.args.self.now c.take_told-told.new.self))
    c.in_ok-joining.ensures c.take_told-told.ensures
