pub mod Ascending
pub mod Answered
