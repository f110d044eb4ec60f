use Rattle.std.proofs.Common.{◌≡◌, ℕ, Bool, true, false, List, [], ◌∷◌, refl, sym, ap, ◌∙◌, arith}
use Rattle.std.specs.Prelude.{◌==◌, ◌||◌, nat_lt}
use Rattle.std.proofs.lemmas.Bool.Decides.{nat_tests}
use Rattle.zs_rows.specs.Numbers.{is_in}
use Rattle.zs_rows.proofs.Listing.{same_numbers}
use Rattle.zs_subscriptions.specs.Ascending.{placed_by}
use Rattle.zs_subscriptions.proofs.Ascending.{ascend_placed}
use Rattle.zs_keyed.proofs.Ascending.{by_test}
use Rattle.zs_entity_tables.proofs.id_set.IdSet.insert.Goals as goal

-- a number is there once it is placed
in_placed : (n q : ℕ) (ids : List ℕ) → is_in q (placed_by (λ n. n) n ids) ≡ ((q == n) || is_in q ids)
in_placed n q [] = by_test (q == n) (λ k. grind (arith, nat_tests, k)) (λ k. grind (arith, nat_tests, k))
in_placed n q (id ∷ ids) =
    let ih = in_placed n q ids in
    by_test (id == n)
    (λ k. by_test (q == n) (λ m. grind (arith, nat_tests, k, m)) (λ m. grind (arith, nat_tests, k, m)))
    (λ k. by_test (nat_lt n id)
    (λ lt. by_test (q == n) (λ m. grind (arith, nat_tests, k, lt, m)) (λ m. grind (arith, nat_tests, k, lt, m)))
    (λ lt. by_test (id == q) (λ m. grind (arith, nat_tests, k, lt, m, ih)) (λ m. grind (arith, nat_tests, k, lt, m, ih))))

pub returns-clause-ok : goal.returns-clause-ok
returns-clause-ok c =
    rw (← c.self.view_is)
    (same_numbers c.insert.new.self (placed_by (λ n. n) c.args.id c.self.inside.ids) c.len-in_order.ensures.ascending
    (ascend_placed (λ n. n) c.args.id c.self.inside.ids c.len-was_in_order.ensures.ascending)
    (λ q. c.in_ok-insert.ensures.ok q ∙ sym (in_placed c.args.id q c.self.inside.ids)))
