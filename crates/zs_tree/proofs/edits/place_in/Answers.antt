use Rattle.std.proofs.Common.{sym, subst}
use Rattle.zs_tree.specs.Entries.{AreInOrder}
use Rattle.zs_tree.proofs.Skipping.{block_order}
use Rattle.zs_tree.proofs.edits.place_in.Goals as goal

pub place_of-requires : goal.place_of-requires
place_of-requires c = subst AreInOrder (sym c.entries.ensures) (subst AreInOrder (sym c.index-blocks-at.is) (block_order c.args.at c.index-blocks-at.result c.args.blocks.now c.requires.bound c.requires.order))
