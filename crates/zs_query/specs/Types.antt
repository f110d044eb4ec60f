-- The types of the requests that callers name.
pub use Rattle.zs_requests.specs.declared.request_row.RequestRow.{RequestRow}
pub use Rattle.zs_requests.specs.declared.query_value.QueryValue.{QueryValue}
pub use Rattle.zs_requests.specs.declared.requests.Finished.{Finished}
pub use Rattle.zs_requests.specs.declared.requests.Finished.TheVariants.{Unknown, MoreLeft, Last}
