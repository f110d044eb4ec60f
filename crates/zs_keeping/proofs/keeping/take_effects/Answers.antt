use Rattle.std.proofs.Common.{rules, ◌≡◌, ap, sym, ◌∙◌, arith, take}
use Rattle.zs_keeping.specs.Keeping.{with_effect, with_effects}
use Rattle.zs_keeping.proofs.Effects.{one_more}
use Rattle.zs_keeping.proofs.keeping.take_effects.Goals as goal

pub loop-effect-preserved : goal.loop-effect-preserved
loop-effect-preserved c =
    let items = c.as_slice-items.result.now in
    let i = c.loop-effect.effect-index in
    let x = c.effect-item.result in
    c.in_ok-take_effect.ensures ∙ ap (with_effect c.args.id x) c.loop-effect.invariant
    ∙ ap (λ e. with_effect c.args.id e (with_effects c.args.id (take i items) c.args.store.now)) c.effect-item.is
    ∙ sym (one_more c.args.id items i x c.args.store.now (omega arith))
