use Rattle.std.proofs.Common.{string_bytes}
use Rattle.zs_keys.specs.Text.{chunks}
use Rattle.zs_tree.proofs.Cut.{are_cut}
use Rattle.zs_tree.proofs.Turns.{led_start}
use Rattle.zs_tree.proofs.walk.start.Goals as goal

pub returns : goal.returns
returns c =
    let asked = c.args.asked.now in
    let text = string_bytes c.args.stored.now.text in
    rw (c.of.ensures, c.of-2.ensures, c.as_str.ensures.value, c.deref.ensures.value, c.deref-2.ensures.value, c.args.stored.now.coded)
    (led_start (chunks asked) (chunks text) (are_cut asked))
