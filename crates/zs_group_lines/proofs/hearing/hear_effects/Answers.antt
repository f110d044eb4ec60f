use Rattle.std.proofs.Common.{rules, ◌≡◌, ap, sym, ◌∙◌, arith, take}
use Rattle.zs_group_lines.specs.Tokens.{heard, heard_effect}
use Rattle.zs_group_lines.proofs.Heard.{one_more}
use Rattle.zs_group_lines.proofs.hearing.hear_effects.Goals as goal

pub loop-effect-preserved : goal.loop-effect-preserved
loop-effect-preserved c =
    let items = c.as_slice-items.result.now in
    let i = c.loop-effect.effect-index in
    let x = c.effect-item.result in
    c.in_ok-hear_effect.ensures ∙ ap (heard_effect c.args.id x) c.loop-effect.invariant
    ∙ ap (λ e. heard_effect c.args.id e (heard c.args.id (take i items) c.args.view.now)) c.effect-item.is
    ∙ sym (one_more c.args.id items i x c.args.view.now (omega arith))
