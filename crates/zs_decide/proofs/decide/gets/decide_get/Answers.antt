use Rattle.std.proofs.Common.{◌≡◌, ◌∙◌, true, IfOk, sym, subst}
use Rattle.zs_events.specs.declared.chan.Chan.TheVariants.{Print}
use Rattle.zs_world.specs.declared.change.Decision.{Decision}
use Rattle.zs_model.specs.Cancelling.{is_drawn}
use Rattle.zs_decide.proofs.Asking.{asked_plainly}
use Rattle.zs_decide.proofs.decide.gets.decide_get.Goals as goal

pub returns-in-Ok : goal.returns-in-Ok
returns-in-Ok c =
    let drawn : is_drawn c.args.world.now.cancelling.next c.args.inquiry.now.cancellation_token ≡ true = sym c.is_drawn.ensures ∙ c.if-not-is_drawn.false in
    subst (λ (d : Decision). IfOk c.ask.result (λ made. made ≡ d))
    (asked_plainly c.args.world.now c.args.key.now c.args.settings c.args.inquiry.now Print c.in-Ok.resolved drawn (sym c.in_ok-resolved.ensures ∙ c.in-Ok.is))
    c.ask.ensures
