pub mod DeclaredKeys
pub mod HolderCounts
pub mod MatchingTables
pub mod Bounds
pub mod EntityRows
