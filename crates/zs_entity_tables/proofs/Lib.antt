pub mod Bounds
pub mod Counted
pub mod EntityRows
pub mod HolderCounts
