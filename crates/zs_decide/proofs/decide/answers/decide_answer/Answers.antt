use Rattle.std.proofs.Common.{◌≡◌, IfOk, sym, ap, subst}
use Rattle.zs_world.specs.World.{World}
use Rattle.zs_world.specs.declared.change.Decision.{Decision}
use Rattle.zs_query.specs.Unfinished.{value_at}
use Rattle.zs_decide.proofs.Answered.{answered}
use Rattle.zs_decide.proofs.decide.answers.decide_answer.Goals as goal

pub returns : goal.returns
returns c =
    subst (λ (d : Decision). IfOk c.answer_by.result (λ made. made ≡ d))
    (answered c.args.world.now c.args.value c.args.key.now c.args.quality c.args.body (value_at c.args.value c.world.inside.handing.values) c.in-Some.row c.in-Some.queryable
    c.in-Some.ensures (ap (λ (w : World). value_at c.args.value w.handing.values) (sym c.world.view_is)))
    c.answer_by.ensures
