use Rattle.std.proofs.Common.{◌≡◌, ◌<◌, ◌∷◌, length, string_bytes, refl, sym, ap, ◌∙◌, arith}
use Rattle.zs_keys.specs.Text.{chunks}
use Rattle.zs_tree.specs.Chunks.{chunks_left}
use Rattle.zs_tree.specs.Code.{coded}
use Rattle.zs_tree.proofs.Cut.{are_cut}
use Rattle.zs_tree.proofs.Turns.{fewer_left, code_behind, met_ends, led_rough, led_plain, skip_rough, skip_low, skip_high}
use Rattle.zs_tree.proofs.walk.take_turn.Goals as goal

pub returns-in-None : goal.returns-in-None
returns-in-None c =
    let text = string_bytes c.args.stored.now.text in
    met_ends (chunks c.args.asked.now) (chunks text) (are_cut text) _ _ c.args.at.code.now c.args.at.firm.now c.requires
    c.in-None.ensures c.in_default.ensures

pub returns-then-chunk_meets : goal.returns-then-chunk_meets
returns-then-chunk_meets c =
    let text = string_bytes c.args.stored.now.text in
    let right = chunks_left c.in-Some.right in
    let theirs = c.in-Some.theirs.now in (
      led_rough (chunks c.args.asked.now) (chunks text) (are_cut text) _ _ c.args.at.code.now c.args.at.firm.now
          c.in-Some-next_chunk-2.ours.now theirs (chunks_left c.in-Some-next_chunk-2.left) right c.behind_chunk-code.result.now
          c.requires c.in-Some-next_chunk-2.ensures c.in-Some.ensures (sym c.if-eq-2.ensures) (sym c.if-eq.ensures) (sym c.if-chunk_meets.ensures)
          (c.behind_chunk-code.ensures (coded right) (code_behind _ _ theirs right c.requires.code_is c.in-Some.ensures)),
      fewer_left _ theirs right c.in-Some.ensures,
    )

pub returns-then-is_rough : goal.returns-then-is_rough
returns-then-is_rough c =
    let text = string_bytes c.args.stored.now.text in
    let right = chunks_left c.in-Some.right in
    let theirs = c.in-Some.theirs.now in
    skip_rough (chunks c.args.asked.now) (chunks text) (are_cut text) _ _ c.args.at.code.now c.args.at.firm.now
    c.in-Some-next_chunk-2.ours.now theirs (chunks_left c.in-Some-next_chunk-2.left) right
    c.args.stored.now.code.items c.before-then-is_rough.result.now c.behind_chunk-code.result.now
    c.requires c.in-Some-next_chunk-2.ensures c.in-Some.ensures (sym c.if-eq-2.ensures) (sym c.if-eq.ensures) (sym c.if-chunk_meets.ensures)
    c.args.stored.now.coded
    (c.behind_chunk-code.ensures (coded right) (code_behind _ _ theirs right c.requires.code_is c.in-Some.ensures))
    (rw c.deref.ensures.value at c.before-then-is_rough.ensures)

pub returns-in-Within : goal.returns-in-Within
returns-in-Within c =
    let text = string_bytes c.args.stored.now.text in
    let right = chunks_left c.in-Some.right in
    let theirs = c.in-Some.theirs.now in (
      led_plain (chunks c.args.asked.now) (chunks text) (are_cut text) _ _ c.args.at.code.now c.args.at.firm.now
          c.in-Some-next_chunk-2.ours.now theirs (chunks_left c.in-Some-next_chunk-2.left) right c.in-Within.code.now
          c.requires c.in-Some-next_chunk-2.ensures c.in-Some.ensures (sym c.if-is_rough.ensures) (sym c.if-is_rough-2.ensures) c.in-Within.ensures,
      fewer_left _ theirs right c.in-Some.ensures,
    )

pub returns-in-Before : goal.returns-in-Before
returns-in-Before c =
    let text = string_bytes c.args.stored.now.text in
    skip_low (chunks c.args.asked.now) (chunks text) (are_cut text) _ _ c.args.at.code.now c.args.at.firm.now
    c.in-Some-next_chunk-2.ours c.in-Some.theirs.now (chunks_left c.in-Some-next_chunk-2.left) (chunks_left c.in-Some.right)
    c.args.stored.now.code.items c.before-in-Before.result.now
    c.requires c.in-Some-next_chunk-2.ensures c.in-Some.ensures (sym c.if-is_rough.ensures) (sym c.if-is_rough-2.ensures) c.in-Before.ensures
    c.args.stored.now.coded (rw c.deref-in-Before.ensures.value at c.before-in-Before.ensures)

pub returns-in-Behind : goal.returns-in-Behind
returns-in-Behind c =
    let text = string_bytes c.args.stored.now.text in
    skip_high (chunks c.args.asked.now) (chunks text) (are_cut text) _ _ c.args.at.code.now c.args.at.firm.now
    c.in-Some-next_chunk-2.ours.now c.in-Some.theirs.now (chunks_left c.in-Some-next_chunk-2.left) (chunks_left c.in-Some.right)
    c.args.stored.now.code.items c.before-in-Behind.result.now
    c.requires c.in-Some-next_chunk-2.ensures c.in-Some.ensures (sym c.if-is_rough.ensures) (sym c.if-is_rough-2.ensures) c.in-Behind.ensures
    c.args.stored.now.coded (rw c.deref-in-Behind.ensures.value at c.before-in-Behind.ensures)
