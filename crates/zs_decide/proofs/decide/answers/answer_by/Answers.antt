use Rattle.std.proofs.Common.{◌≡◌, Ok, IfOk, false, sym, subst, ◌∙◌}
use Rattle.zs_events.specs.declared.turn.Refusal.TheVariants.{NotFound}
use Rattle.zs_world.specs.declared.change.Decision.{Decision}
use Rattle.zs_world.specs.Keys.{key_of, resolution}
use Rattle.zs_model.specs.Answers.{is_refused_on}
use Rattle.zs_decide.proofs.Answered.{taken_by}
use Rattle.zs_decide.proofs.decide.answers.answer_by.Goals as goal

pub returns : goal.returns
returns c =
    let key = c.in-Ok.key in
    let found : Ok key ≡ resolution NotFound (key_of c.args.world.now c.args.key.now) = sym c.in-Ok.is ∙ c.in_ok-key.ensures in
    let taken : is_refused_on key.text c.args.row.now ≡ false = sym c.is_refused_on.ensures ∙ c.if-is_refused_on.false in
    let is = taken_by c.args.world.now c.args.key.now c.args.queryable c.args.row.now c.args.quality c.args.body (key_of c.args.world.now c.args.key.now) key found taken in
    subst (λ (d : Decision). IfOk c.reply.result (λ made. made ≡ d)) (sym is) c.reply.ensures
