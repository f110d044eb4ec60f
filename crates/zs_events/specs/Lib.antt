pub mod Turn
pub mod Updates
pub mod Kinds
