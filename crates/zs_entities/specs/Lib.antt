pub mod Builders
pub mod Entities
