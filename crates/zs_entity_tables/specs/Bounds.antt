-- What a state keeps of its numbers.
use Rattle.std.specs.Prelude.{ℕ, ◌<◌, List, All}
use Rattle.zs_subscriptions.specs.declared.subscriber.SubRow.{SubRow}
use Rattle.zs_tables.specs.declared.queryable.QueryableRow.{QueryableRow}
use Rattle.zs_model.specs.declared.publisher.PubRow.{PubRow}
use Rattle.zs_model.specs.declared.querier.QuerierRow.{QuerierRow}
use Rattle.zs_tables.specs.RemoteEntities.{RemoteEntities}
use Rattle.zs_tables.specs.declared.listener.Listener.{Listener}
use Rattle.zs_tables.specs.Matching.{candidates, AreCounted}

-- all numbers of entities are below the next one, and each listener's count is that of those who match
pub record AreBelow (next : ℕ) (rows : List SubRow) (publishers : List PubRow) (queryable_rows : List QueryableRow) (querier_rows : List QuerierRow) (told : RemoteEntities) (listeners : List Listener) : Type 0 where
  pub subs : All (λ row. row.id < next) rows
  pub pubs : All (λ row. row.id < next) publishers
  pub queryables : All (λ row. row.id < next) queryable_rows
  pub queriers : All (λ row. row.id < next) querier_rows
  pub listening : All (λ l. l.row.id < next) listeners
  pub counted : AreCounted (candidates rows queryable_rows told) listeners
