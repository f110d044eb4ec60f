-- The types of the crates below that callers name.
pub use Rattle.zs_model.specs.declared.settings.Settings.{Settings}
pub use Rattle.zs_model.specs.declared.publisher.PubRow.{PubRow}
pub use Rattle.zs_model.specs.declared.querier.QuerierRow.{QuerierRow}
pub use Rattle.zs_world.specs.declared.change.Decision.{Decision}
pub use Rattle.zs_world.specs.declared.change.Change.{Change}
