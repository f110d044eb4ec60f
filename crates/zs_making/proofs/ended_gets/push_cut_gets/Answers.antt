use Rattle.std.proofs.Common.{[], ◌∷◌, ◌++◌, ◌∙◌, ap, sym}
use Rattle.zs_events.specs.declared.turn.Effect.{Effect}
use Rattle.zs_model.specs.GetEffects.{cut_effects, end_get}
use Rattle.zs_making.specs.Spoken.{ender_news}
use Rattle.zs_model.proofs.EndedGets.{behind_none, fewer}
use Rattle.zs_making.proofs.CutGets.{those, those_ascend, cut_those, cut_on}
use Rattle.zs_making.proofs.ended_gets.push_cut_gets.Goals as goal

pub gets-init : goal.gets-init
gets-init c =
    let news = ender_news c.args.ender in
    ap (λ fx. c.args.effects.now ++ fx) (ap (cut_effects news) (behind_none (those news c.args.gets.now)) ∙ cut_those news c.args.gets.now)

pub gets-smaller : goal.gets-smaller
gets-smaller c =
    let news = ender_news c.args.ender in
    fewer c.gets.after c.in-Some.row.now (those news c.args.gets.now) (those_ascend news c.args.gets.now c.in-Some.ensures.ascending) (sym c.in-Some.ensures.next)

pub gets-preserved : goal.gets-preserved
gets-preserved c =
    cut_on (ender_news c.args.ender) c.gets.after c.in-Some.row.now c.args.gets.now c.gets.effects _ c.push.new.self c.in-Some.ensures.ascending c.in-Some.ensures.next
    c.gets.invariant (c.in_ok-push.ensures.ok ∙ ap (λ (e : Effect). c.gets.effects ++ e ∷ []) c.end_get.ensures)
