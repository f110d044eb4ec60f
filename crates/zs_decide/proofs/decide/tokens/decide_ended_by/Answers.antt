use Rattle.std.proofs.Common.{◌≡◌, true, false, IfOk, sym, subst, ◌∙◌}
use Rattle.zs_events.specs.Kinds.{is_blank}
use Rattle.zs_world.specs.declared.change.Decision.{Decision}
use Rattle.zs_decide.proofs.Ended.{ended_blank, ended_named}
use Rattle.zs_decide.proofs.decide.tokens.decide_ended_by.Goals as goal

pub returns-then-is_blank : goal.returns-then-is_blank
returns-then-is_blank c =
    let blank : is_blank c.args.wire.now ≡ true = sym c.is_blank.ensures ∙ c.if-is_blank.true in
    c.forget_token.ensures ∙ ended_blank c.args.world.now c.args.id c.args.wire.now c.args.interest blank c.requires

pub returns : goal.returns
returns c =
    let named : is_blank c.args.wire.now ≡ false = sym c.is_blank.ensures ∙ c.if-is_blank.false in
    subst (λ (d : Decision). IfOk c.decide_ended_on.result (λ made. made ≡ d))
    (ended_named c.args.world.now c.args.id c.args.wire.now c.args.interest named c.requires) c.decide_ended_on.ensures
