pub mod Names
pub mod Schemas
