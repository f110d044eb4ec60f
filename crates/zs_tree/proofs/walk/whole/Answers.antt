use Rattle.std.proofs.Common.{string_bytes, sym}
use Rattle.zs_keys.specs.Text.{chunks}
use Rattle.zs_tree.proofs.Cut.{are_cut}
use Rattle.zs_tree.proofs.Missed.{missed_whole}
use Rattle.zs_tree.proofs.walk.whole.Goals as goal

pub returns : goal.returns
returns c =
    let text = string_bytes c.args.stored.now.text in
    let missed = missed_whole (chunks c.args.asked.now) (chunks text) (are_cut text) (sym (rw c.as_str.ensures.value at c.if-texts_meet.ensures)) in
    rw (c.deref.ensures.value, c.args.stored.now.coded) missed
