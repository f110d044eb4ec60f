pub mod Hearing
pub mod Publishers
