use Rattle.std.proofs.Common.{rules}
use Rattle.std.specs.Prelude.{nat_le}
use Rattle.std.proofs.lemmas.List.Sorted.{IsPartitionPoint-from_clause}
use Rattle.zs_subscriptions.proofs.Searching.{all_behind, behind_point}
use Rattle.zs_subscriptions.proofs.places.ids_behind.Goals as goal

pub returns-in_default : goal.returns-in_default
returns-in_default c = rw c.in_default.is (all_behind (λ id. id) _)

pub returns : goal.returns
returns c = rw c.in-Some.is (behind_point (λ id. id) c.in-Some.after c.args.ids.now _ c.requires c.partition_point-start.ensures.bound (λ parted. IsPartitionPoint-from_clause (λ id. nat_le id c.in-Some.after) _ _ c.partition_point-start.ensures.partitioned parted (λ a r f called. search rules)))
