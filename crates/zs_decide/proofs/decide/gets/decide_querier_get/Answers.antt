use Rattle.std.proofs.Common.{◌≡◌, ◌∙◌, List, Some, None, true, IfOk, sym, ap, subst}
use Rattle.zs_keys.specs.Key.{Key as a_key}
use Rattle.zs_events.specs.Kinds.{Question, QuerierKey}
use Rattle.zs_world.specs.declared.change.Decision.{Decision}
use Rattle.zs_world.specs.World.{World}
use Rattle.zs_model.specs.Cancelling.{is_drawn}
use Rattle.zs_model.specs.Queriers.{querier_at, question_of}
use Rattle.zs_making.specs.Spoken.{question_by}
use Rattle.zs_events.specs.declared.chan.Chan.TheVariants.{Print}
use Rattle.zs_world.specs.Decisions.{ask_decision}
use Rattle.zs_decide.proofs.Asking.{unqueried, queried}
use Rattle.zs_decide.proofs.decide.gets.decide_querier_get.Goals as goal

pub returns-in_default : goal.returns-in_default
returns-in_default c =
    let rows : c.world.inside.queriers ≡ c.args.world.now.entities.queriers = ap (λ (w : World). w.entities.queriers) c.world.view_is in
    let none : querier_at c.args.id c.args.world.now.entities.queriers ≡ None = sym (c.in_default.ensures ∙ ap (querier_at c.args.id) rows) in
    c.refused.ensures ∙ unqueried c.args.world.now c.args.id c.args.inquiry.now Print none

pub returns : goal.returns
returns c =
    let rows : c.world.inside.queriers ≡ c.args.world.now.entities.queriers = ap (λ (w : World). w.entities.queriers) c.world.view_is in
    let found : querier_at c.args.id c.args.world.now.entities.queriers ≡ Some c.in-Some.row.now = sym (c.in-Some.ensures ∙ ap (querier_at c.args.id) rows) in
    let text : c.key_of.result.text ≡ c.in-Some.row.now.key.text = ap (λ (k : a_key). k.text) c.key_of.ensures.plain in
    let asks : question_by c.question_of.result ≡ question_of c.in-Some.row.now c.args.inquiry.now = c.question_of.ensures in
    let drawn : is_drawn c.args.world.now.cancelling.next c.args.inquiry.now.cancellation_token ≡ true = sym c.is_drawn.ensures ∙ c.if-not-is_drawn.false in
    subst (λ (d : Decision). IfOk c.ask.result (λ made. made ≡ d))
    ((λ i. ask_decision c.args.world.now (QuerierKey c.args.id) (asks i) (text i))
    ∙ queried c.args.world.now c.args.id c.args.inquiry.now Print c.in-Some.row.now found c.key_of.ensures.canonical drawn)
    c.ask.ensures
