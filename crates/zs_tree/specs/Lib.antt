pub mod Code
pub mod Rows
pub mod Chunks
pub mod Entries
pub mod Runs
pub mod Blocks
pub mod Walk
pub mod Gap
