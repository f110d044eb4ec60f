use Rattle.zs_tree.specs.Blocks.{flat, left_of}
use Rattle.zs_tree.proofs.Skipping.{order_left, lie_behind, more_left, empty_is}
use Rattle.zs_tree.proofs.left.Left.skip.Goals as goal

pub split_run-requires-clause-order : goal.split_run-requires-clause-order
split_run-requires-clause-order c = order_left c.args.self.block.now (flat c.args.self.later.now) c.requires.order

pub skip_blocks-requires-clause-behind : goal.skip_blocks-requires-clause-behind
skip_blocks-requires-clause-behind c = lie_behind c.args.path.now c.args.bound c.args.self.block.now (flat c.args.self.later.now) c.requires.order c.requires.first

pub returns-then-is_empty-clause-left : goal.returns-then-is_empty-clause-left
returns-then-is_empty-clause-left c =
    more_left c.args.path.now c.args.bound c.args.self.block.now c.split_run.result.0.now c.split_run.result.1.now (flat c.args.self.later.now) (left_of c.skip_blocks.result)
    c.split_run.ensures.parts (empty_is c.is_empty.result c.split_run.result.1.now c.is_empty.ensures c.if-is_empty.true) c.split_run.ensures.run c.skip_blocks.ensures.left
