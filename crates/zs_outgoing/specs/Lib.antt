pub mod Published
pub mod Tokens
