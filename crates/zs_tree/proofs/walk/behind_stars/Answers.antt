use Rattle.std.proofs.Common.{◌∷◌, string_bytes, sym, ap, ◌∙◌}
use Rattle.zs_keys.specs.Text.{chunks}
use Rattle.zs_tree.specs.Chunks.{chunks_left}
use Rattle.zs_tree.specs.Code.{coded}
use Rattle.zs_tree.proofs.Cut.{are_cut}
use Rattle.zs_tree.proofs.Turns.{skip_stars, code_behind}
use Rattle.zs_tree.proofs.walk.behind_stars.Goals as goal

pub returns-in-Some-gap : goal.returns-in-Some-gap
returns-in-Some-gap c =
    let text = string_bytes c.args.stored.now.text in
    let stars = c.args.stars.now in
    let right = chunks_left c.args.right in
    let next = c.requires.stored_next ∙ ap (λ cs. stars ∷ cs) c.in-Some.ensures in
    let behind = c.behind_chunk-behind.ensures (coded right) (code_behind _ _ stars right c.requires.led.code_is c.requires.stored_next) ∙ ap coded c.in-Some.ensures in
    skip_stars (chunks c.args.asked.now) (chunks text) (are_cut text) _ _ c.args.at.code.now c.args.at.firm.now stars c.in-Some.theirs.now (chunks_left c.in-Some.field-0-1)
    c.in-Some-gap.bound c.args.stored.now.code.items c.before-in-Some-gap.result.now c.behind_chunk-behind.result.now
    c.requires.led next c.requires.double_star (sym c.if-is_rough.ensures) c.in-Some-gap.ensures c.args.stored.now.coded behind
    (rw c.deref.ensures.value at c.before-in-Some-gap.ensures)
