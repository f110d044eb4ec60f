-- Told tokens are found by their numbers.
use Rattle.std.proofs.Common.{◌≡◌, ℕ, ◌<◌, Bool, List, [], ◌∷◌, Option, Some, refl, ap, arith}
use Rattle.std.specs.Prelude.{◌==◌, map, filter}
use Rattle.std.specs.List.{AllByRecursion, find}
use Rattle.std.proofs.lemmas.Bool.Decides.{nat_tests}
use Rattle.zs_keys.specs.Key.{Key}
use Rattle.zs_keyed.specs.Ascending.{Ascend}
use Rattle.zs_liveliness.specs.RemoteTokens.{keys_at}
use Rattle.zs_liveliness.specs.declared.remote_token.RemoteToken.{RemoteToken}
use Rattle.zs_keyed.proofs.Ordered.{all_both}
use Rattle.zs_keyed.proofs.Ascending.{by_test}

-- each token is found by its number
found_each : (rows : List RemoteToken) → Ascend (λ t. t.number) rows → AllByRecursion (λ (row : RemoteToken). find (λ t. t.number == row.number) rows ≡ Some row) rows
found_each [] up = tt
found_each (row ∷ rows) up = (
  grind (arith, nat_tests),
  all_both (λ (later : RemoteToken). row.number < later.number) (λ later. find (λ t. t.number == later.number) rows ≡ Some later)
      (λ later. find (λ t. t.number == later.number) (row ∷ rows) ≡ Some later) (λ later above is. grind (arith, nat_tests, above, is)) rows up.0 (found_each rows up.1),
)

keys_each : (p : RemoteToken → Bool) (all rows : List RemoteToken) → AllByRecursion (λ (row : RemoteToken). find (λ t. t.number == row.number) all ≡ Some row) rows
    → keys_at all (map (λ (t : RemoteToken). t.number) (filter p rows)) ≡ map (λ (t : RemoteToken). t.key) (filter p rows)
keys_each p all [] each = refl
keys_each p all (row ∷ rows) each =
    let ih = keys_each p all rows each.1 in
    by_test (p row) (λ k. rw (k, each.0) (ap (λ (rest : List Key). row.key ∷ rest) ih)) (λ k. rw k ih)

-- the keys at the numbers of those that pass a test are theirs
pub keys_met : (p : RemoteToken → Bool) (rows : List RemoteToken) → Ascend (λ t. t.number) rows
    → keys_at rows (map (λ (t : RemoteToken). t.number) (filter p rows)) ≡ map (λ (t : RemoteToken). t.key) (filter p rows)
keys_met p rows up = keys_each p rows rows (found_each rows up)
