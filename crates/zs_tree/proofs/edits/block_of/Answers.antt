use Rattle.std.proofs.Common.{rules}
use Rattle.std.proofs.lemmas.List.Sorted.{IsPartitionPoint-from_clause}
use Rattle.zs_tree.specs.Code.{code_of}
use Rattle.zs_tree.specs.Blocks.{begins_up_to}
use Rattle.zs_tree.proofs.Placing.{heads_parted, block_found}
use Rattle.zs_tree.proofs.edits.block_of.Goals as goal

pub returns-clause-block : goal.returns-clause-block
returns-clause-block c =
    let bs = c.args.blocks.now in
    let code = code_of c.args.text.now in
    let point = IsPartitionPoint-from_clause (λ b. begins_up_to code c.args.id b) bs c.partition_point.result c.partition_point.ensures.partitioned
    (heads_parted code c.args.id bs c.requires.order c.requires.filled) (λ a r f called. search rules) in
    block_found code c.args.id c.partition_point.result c.saturating_sub.result bs c.saturating_sub.ensures point.0 point.1
