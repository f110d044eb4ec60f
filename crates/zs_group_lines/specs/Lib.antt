pub mod Lines
pub mod Tokens
pub mod Membership
pub mod Shown
