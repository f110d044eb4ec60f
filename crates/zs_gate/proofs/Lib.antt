pub mod Totals
pub mod Steps
pub mod Moves
pub mod Locking
