pub mod Joining
pub mod Pieces
pub mod Writing
pub mod Comparing
pub mod Texts
