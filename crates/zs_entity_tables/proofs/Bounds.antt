-- All numbers of entities stay below the next one.
use Rattle.std.proofs.Common.{◌≡◌, ◌<◌, ◌≤◌, ◌+◌, ℕ, List, [], ◌∷◌, ◌++◌, arith}
use Rattle.std.specs.Prelude.{◌==◌, not, filter, All}
use Rattle.std.specs.List.{AllByRecursion}
use Rattle.std.proofs.lemmas.Bool.Decides.{nat_tests}
use Rattle.std.proofs.lemmas.List.Elements.{recursion_from_All, All-from_recursion}
use Rattle.zs_tables.specs.RemoteEntities.{RemoteEntities}
use Rattle.zs_tables.specs.declared.listener.Listener.{Listener}
use Rattle.zs_subscriptions.specs.declared.subscriber.SubRow.{SubRow}
use Rattle.zs_tables.specs.declared.queryable.QueryableRow.{QueryableRow}
use Rattle.zs_model.specs.declared.publisher.PubRow.{PubRow}
use Rattle.zs_model.specs.declared.querier.QuerierRow.{QuerierRow}
use Rattle.zs_subscriptions.proofs.Ascending.{all_weaker, all_filter, all_push}
use Rattle.zs_entity_tables.specs.Bounds.{AreBelow}

-- rows with one more, and rows beside one more
pub rows_push : {R : Type 0} (number : R → ℕ) (next : ℕ) (rows : List R) (row : R) → number row ≡ next → All (λ r. number r < next) rows → All (λ r. number r < next + 1) (rows ++ row ∷ [])
rows_push number next rows row is all =
    All-from_recursion (λ r. number r < next + 1) (rows ++ row ∷ [])
    (all_push (λ r. number r < next + 1) rows row
    (all_weaker (λ r. number r < next) (λ r. number r < next + 1) (λ r less. omega (arith, less)) rows (recursion_from_All (λ r. number r < next) rows all)) (omega (arith, is)))

pub rows_weaker : {R : Type 0} (number : R → ℕ) (next : ℕ) (rows : List R) → All (λ r. number r < next) rows → All (λ r. number r < next + 1) rows
rows_weaker number next rows all =
    All-from_recursion (λ r. number r < next + 1) rows
    (all_weaker (λ r. number r < next) (λ r. number r < next + 1) (λ r less. omega (arith, less)) rows (recursion_from_All (λ r. number r < next) rows all))

pub rows_less : {R : Type 0} (number : R → ℕ) (next id : ℕ) (rows : List R) → All (λ r. number r < next) rows → All (λ r. number r < next) (filter (λ r. not (number r == id)) rows)
rows_less number next id rows all =
    All-from_recursion (λ r. number r < next) (filter (λ r. not (number r == id)) rows)
    (all_filter (λ r. number r < next) (λ r. not (number r == id)) rows (recursion_from_All (λ r. number r < next) rows all))

-- taking out what was put behind all others leaves them
pub push_undone : {R : Type 0} (number : R → ℕ) (rows : List R) (row : R) → All (λ r. number r < number row) rows → filter (λ r. not (number r == number row)) (rows ++ row ∷ []) ≡ rows
push_undone {R} number rows row all = go rows (recursion_from_All (λ r. number r < number row) rows all)
  where
    go : (rs : List R) → AllByRecursion (λ r. number r < number row) rs → filter (λ r. not (number r == number row)) (rs ++ row ∷ []) ≡ rs
    go [] less = grind (arith, nat_tests)
    go (r ∷ rs) less = grind (arith, nat_tests, less.0, go rs less.1)

-- all that is below a number is below a greater one
rows_up : {R : Type 0} (number : R → ℕ) (next after : ℕ) (rows : List R) → next ≤ after → All (λ r. number r < next) rows → All (λ r. number r < after) rows
rows_up number next after rows le all =
    All-from_recursion (λ r. number r < after) rows
    (all_weaker (λ r. number r < next) (λ r. number r < after) (λ r less. omega (arith, less, le)) rows (recursion_from_All (λ r. number r < next) rows all))

pub below_weaker : (next after : ℕ) (rows : List SubRow) (publishers : List PubRow) (queryables : List QueryableRow) (queriers : List QuerierRow) (told : RemoteEntities) (listeners : List Listener) → next ≤ after
    → AreBelow next rows publishers queryables queriers told listeners → AreBelow after rows publishers queryables queriers told listeners
below_weaker next after rows publishers queryables queriers told listeners le b = record {
  subs = rows_up (λ (row : SubRow). row.id) next after rows le b.subs;
  pubs = rows_up (λ (row : PubRow). row.id) next after publishers le b.pubs;
  queryables = rows_up (λ (row : QueryableRow). row.id) next after queryables le b.queryables;
  queriers = rows_up (λ (row : QuerierRow). row.id) next after queriers le b.queriers;
  listening = rows_up (λ (l : Listener). l.row.id) next after listeners le b.listening;
  counted = b.counted;
}
