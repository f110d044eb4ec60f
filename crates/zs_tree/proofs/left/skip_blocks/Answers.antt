use Rattle.std.proofs.Common.{◌≡◌, ◌<◌, ◌++◌, ℕ, suc, true, List, length, get_or, drop, sym, ap, ◌∙◌, subst, rules, arith}
use Rattle.std.specs.List.{AllWithin}
use Rattle.std.proofs.lemmas.List.Sorted.{IsPartitionPoint-from_clause}
use Rattle.zs_tree.specs.declared.entry.Entry.{Entry}
use Rattle.zs_tree.specs.Entries.{AreInOrder}
use Rattle.zs_tree.specs.Runs.{BeginsWithin}
use Rattle.zs_tree.specs.Blocks.{flat, begins_within, LeavesOut}
use Rattle.zs_tree.proofs.Skipping.{within_parted, block_order, begins_there, blocks_left}
use Rattle.std.proofs.lemmas.List.{take_rest}
use Rattle.zs_tree.proofs.left.skip_blocks.Goals as goal

pub split_run-requires-clause-order : goal.split_run-requires-clause-order
split_run-requires-clause-order c =
    let lt : c.in-Some.at < length c.args.later.now = omega (arith, c.in-Some.ensures, c.partition_point-count.ensures.bound) in
    subst AreInOrder (sym c.entries.ensures) (subst AreInOrder (sym c.index-later-at.is) (block_order c.in-Some.at c.index-later-at.result c.args.later.now lt c.requires.behind.order))

pub split_run-requires-clause-first : goal.split_run-requires-clause-first
split_run-requires-clause-first c =
    let bs = c.args.later.now in
    let path = c.args.path.now in
    let bound = c.args.bound in
    let at = c.in-Some.at in
    let d = c.index-later-at.result in
    let point = IsPartitionPoint-from_clause (λ b. begins_within path bound b) bs c.partition_point-count.result c.partition_point-count.ensures.partitioned
    (within_parted path bound bs c.requires.behind c.requires.filled) (λ a r f called. search rules) in
    let begins : begins_within path bound (get_or bs at d) ≡ true = point.0 at d (omega arith) (omega (arith, c.in-Some.ensures)) in
    subst (BeginsWithin path bound) (sym c.entries.ensures) (subst (BeginsWithin path bound) (sym c.index-later-at.is) (begins_there path bound (get_or bs at d) begins))

pub returns-clause-left : goal.returns-clause-left
returns-clause-left c =
    let bs = c.args.later.now in
    let path = c.args.path.now in
    let bound = c.args.bound in
    let at = c.in-Some.at in
    let count = c.partition_point-count.result in
    let d = c.index-later-at.result in
    let block = c.split_run.result.1.now in
    let lt : at < length bs = omega (arith, c.in-Some.ensures, c.partition_point-count.ensures.bound) in
    let count_is : suc at ≡ count = omega (arith, c.in-Some.ensures) in
    let point = IsPartitionPoint-from_clause (λ b. begins_within path bound b) bs count c.partition_point-count.ensures.partitioned
    (within_parted path bound bs c.requires.behind c.requires.filled) (λ a r f called. search rules) in
    let begins : begins_within path bound (get_or bs at d) ≡ true = point.0 at d (omega arith) (omega (arith, c.in-Some.ensures)) in
    subst (λ (rest : List (List Entry)). LeavesOut path bound (flat bs) (block ++ flat rest)) (ap (λ (n : ℕ). drop n bs) count_is ∙ sym (take_rest bs count))
    (blocks_left path bound at d c.split_run.result.0.now block bs lt c.requires.behind begins (sym c.index-later-at.is ∙ (sym c.entries.ensures ∙ c.split_run.ensures.parts)) c.split_run.ensures.run)
