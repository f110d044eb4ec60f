pub mod Naming
pub mod Counting
pub mod Telling
pub mod Mapped
mod Copied
