use Rattle.std.proofs.Common.{◌≡◌, ◌<◌, ◌≤◌, ℕ, true, false, List, None, ap, ◌∙◌, rules, arith}
use Rattle.std.specs.Prelude.{nat_le, map}
use Rattle.std.proofs.lemmas.Bool.Decides.{nat_tests}
use Rattle.std.proofs.lemmas.List.{take_rest}
use Rattle.std.proofs.lemmas.List.Sorted.{IsPartitionPoint-from_clause, IsPartitionedBy-leb}
use Rattle.zs_tree.specs.declared.entry.Entry.{Entry}
use Rattle.zs_tree.specs.Rows.{first_above}
use Rattle.zs_tree.proofs.Sorted.{first_behind, id_order}
use Rattle.zs_tree.proofs.least.first_of_run.Goals as goal

low_of : (n m : ℕ) → nat_le m n ≡ true → m ≤ n
low_of n m is = grind (arith, nat_tests, is)

high_of : (n m : ℕ) → nat_le m n ≡ false → n < m
high_of n m is = grind (arith, nat_tests, is)

pub returns-in_default : goal.returns-in_default
returns-in_default c = rw c.in_default.is c.first_id.ensures

pub returns : goal.returns
returns c =
    let n = c.in-Some.after in
    let run = c.args.run.now in
    let at = c.partition_point-at.result in
    let point = IsPartitionPoint-from_clause (λ (e : Entry). nat_le e.id n) run at c.partition_point-at.ensures.partitioned
    (IsPartitionedBy-leb (λ (e : Entry). e.id) run n (id_order run c.requires)) (λ a r f called. search rules) in
    c.first_id-2.ensures ∙ ap (λ (es : List Entry). first_above None (map (λ (e : Entry). e.id) es)) (take_rest run at)
    ∙ rw c.in-Some.is
    (first_behind n run at c.partition_point-at.ensures.bound
    (λ k d low lt. low_of n _ (point.0 k d low lt)) (λ k d low lt. high_of n _ (point.1 k d low lt)))
