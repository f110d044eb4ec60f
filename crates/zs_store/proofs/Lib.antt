pub mod Newer
pub mod Stores
pub mod Joins
pub mod Best
pub mod Mapped
