use Rattle.std.proofs.Common.{string_bytes, refl, sym, ◌∙◌}
use Rattle.zs_keys.specs.Text.{chunks}
use Rattle.zs_tree.specs.Code.{coded}
use Rattle.zs_tree.proofs.Cut.{are_cut}
use Rattle.zs_tree.proofs.Turns.{skip_end, skip_end_rough, code_behind}
use Rattle.zs_tree.proofs.walk.asked_ends.Goals as goal

pub returns-then-is_rough : goal.returns-then-is_rough
returns-then-is_rough c =
    let text = string_bytes c.args.stored.now.text in
    let theirs = c.args.theirs.now in
    let (rest, right_is) = c.requires.stored_next in
    skip_end_rough (chunks c.args.asked.now) (chunks text) (are_cut text) _ _ c.args.at.code.now c.args.at.firm.now theirs rest
    c.args.stored.now.code.items c.before-then-is_rough.result.now c.behind_chunk.result.now
    c.requires.led c.requires.asked_end right_is c.requires.no_star c.args.stored.now.coded
    (c.behind_chunk.ensures (coded rest) (code_behind _ _ theirs rest c.requires.led.code_is right_is))
    (rw c.deref.ensures.value at c.before-then-is_rough.ensures)

pub returns : goal.returns
returns c =
    let text = string_bytes c.args.stored.now.text in
    let (rest, right_is) = c.requires.stored_next in
    skip_end (chunks c.args.asked.now) (chunks text) (are_cut text) _ _ c.args.at.code.now c.args.at.firm.now c.args.theirs.now rest
    c.args.stored.now.code.items c.before-2.result.now
    c.requires.led c.requires.asked_end right_is (sym c.if-is_rough.ensures) c.args.stored.now.coded
    (rw c.deref-2.ensures.value at c.before-2.ensures)
