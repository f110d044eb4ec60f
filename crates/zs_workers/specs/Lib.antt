pub mod HandOvers
pub mod Workers
