pub mod Telling
pub mod Giving
pub mod Rows
pub mod Following
