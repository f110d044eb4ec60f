pub mod Messages
pub mod Receipts
pub mod Held
pub mod Numbers
