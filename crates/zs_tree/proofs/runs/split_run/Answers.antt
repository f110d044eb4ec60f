use Rattle.std.proofs.Common.{◌≡◌, ◌<◌, ◌≤◌, true, length, take, rules, arith}
use Rattle.std.proofs.lemmas.List.Sorted.{IsPartitionPoint-from_clause}
use Rattle.zs_tree.specs.declared.entry.Entry.{Entry}
use Rattle.zs_tree.specs.Runs.{lies}
use Rattle.zs_tree.proofs.RunLemmas.{parted, order_take, begins_take, all_front, some_front, begins_some}
use Rattle.zs_tree.proofs.runs.split_run.Goals as goal

pub returns : goal.returns
returns c =
    let es = c.args.entries.now in
    let path = c.args.path.now in
    let bound = c.args.bound in
    let end = c.reach-end.result in
    let far : 0 < end = c.reach-end.ensures.some (begins_some path bound es c.requires.first) in
    let point = IsPartitionPoint-from_clause (λ (e : Entry). lies path bound e.code.items) (take end es) c.partition_point-at.result
    c.partition_point-at.ensures.partitioned
    (parted path bound (take end es) (order_take end es c.requires.order) (begins_take path bound end es far c.requires.first))
    (λ a r f called. search rules) in
    record {
      parts = c.split_at.ensures.by_index.0;
      run = rw c.split_at.ensures.front
          (all_front (λ (e : Entry). lies path bound e.code.items ≡ true) c.partition_point-at.result end es c.partition_point-at.ensures.bound point.0);
      some = rw c.split_at.ensures.front (some_front path bound c.partition_point-at.result end es far c.requires.first point.1);
    }
