pub mod Linked
pub mod Links
pub mod Delivery
pub mod Told
pub mod Tokens
