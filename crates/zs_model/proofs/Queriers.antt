-- Queriers that are found by their numbers.
use Rattle.std.proofs.Common.{◌≡◌, ℕ, List, [], ◌∷◌, Bool, true, false, Some, None, refl}
use Rattle.std.specs.Prelude.{◌==◌, ◌||◌, if◌then◌else◌}
use Rattle.zs_model.specs.declared.querier.QuerierRow.{QuerierRow}
use Rattle.zs_model.specs.Queriers.{is_querier, querier_at}

-- one that is found is there, and one that is not found is not
pub found_there : (id : ℕ) (rows : List QuerierRow) (row : QuerierRow) → querier_at id rows ≡ Some row → is_querier id rows ≡ true
found_there id [] row found = cc
found_there id (r ∷ rows) row found = go (r.id == id) found (found_there id rows row)
  where
    go : (b : Bool) → (if b then Some r else querier_at id rows) ≡ Some row → (querier_at id rows ≡ Some row → is_querier id rows ≡ true)
        → (b || is_querier id rows) ≡ true
    go true found ih = refl
    go false found ih = ih found

pub missing_there : (id : ℕ) (rows : List QuerierRow) → querier_at id rows ≡ None → is_querier id rows ≡ false
missing_there id [] found = refl
missing_there id (r ∷ rows) found = go (r.id == id) found (missing_there id rows)
  where
    go : (b : Bool) → (if b then Some r else querier_at id rows) ≡ None → (querier_at id rows ≡ None → is_querier id rows ≡ false) → (b || is_querier id rows) ≡ false
    go true found ih = cc
    go false found ih = ih found
