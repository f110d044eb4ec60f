pub mod Cutting
pub mod Trimming
pub mod Joining
pub mod Found
pub mod Pairs
pub mod Reading
