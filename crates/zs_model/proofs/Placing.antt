-- Numbers that are put in place among others.
use Rattle.std.proofs.Common.{◌≡◌, ℕ, List, [], ◌∷◌, arith}
use Rattle.std.specs.Prelude.{◌==◌, ◌||◌}
use Rattle.std.specs.List.{list_any}
use Rattle.std.proofs.lemmas.Bool.Decides.{nat_tests}
use Rattle.zs_subscriptions.specs.Ascending.{placed_by}

-- a number that is put in place is there, and so are those before
pub placed_any : (id new : ℕ) (ids : List ℕ) → list_any (λ other. other == id) (placed_by (λ n. n) new ids) ≡ ((id == new) || list_any (λ other. other == id) ids)
placed_any id new [] = grind (arith, nat_tests)
placed_any id new (other ∷ ids) = grind (arith, nat_tests, placed_any id new ids)
