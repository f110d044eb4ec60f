use Rattle.std.proofs.Common.{sym, subst}
use Rattle.zs_groups.specs.Told.{Told, with_many}
use Rattle.zs_groups.specs.Sides.{AreTold}
use Rattle.zs_groups.proofs.Steps.{many_more}
use Rattle.zs_groups.proofs.sides.Sides.deliver_many.Goals as goal

pub loop-preserved : goal.loop-preserved
loop-preserved c s t told =
    let before = with_many c.args.from c.loop.counter t in
    subst (λ (made : Told). AreTold c.deliver_oldest.new.self s made) (sym (many_more c.args.from c.loop.counter t))
    (c.in_ok-deliver_oldest.ensures s before (c.loop.invariant s t told))
