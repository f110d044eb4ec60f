use Rattle.std.proofs.Common.{◌∙◌, arith}
use Rattle.zs_tree.specs.Blocks.{flat}
use Rattle.zs_tree.specs.Entries.{hit_ids}
use Rattle.zs_tree.proofs.MatchLemmas.{turned, matches_of_sorted}
use Rattle.zs_tree.proofs.tree.KeyTree.matches_into.Goals as goal

pub returns-clause-ok : goal.returns-clause-ok
returns-clause-ok g c =
    let es = flat c.self.inside.blocks.items in
    let text = c.args.key.now.text in
    let pushed = rw (c.deref.ensures.value, c.as_str.ensures.text) at c.in_default.ensures.ok in
    let ids = c.truncate-2.ensures.items ∙ rw c.rotate_left.ensures.items (turned c.args.into.now.items (hit_ids text es) c.push_hits.new.into.items c.len-held.result c.len.result pushed
    (omega (arith, c.len-held.ensures, c.args.into.now.ok.0)) (omega (arith, c.len.ensures, c.rotate_left.ensures.len, c.push_hits.new.into.ok.0))) in
    rw (← c.self.view_is) (matches_of_sorted text es c.truncate-2.new.self.items c.sort_unstable.new.self.items ids c.sort_unstable.ensures.permutation c.sort_unstable.ensures.sorted)
