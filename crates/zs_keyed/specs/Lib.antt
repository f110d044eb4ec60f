pub mod Ascending
pub mod Keyed
