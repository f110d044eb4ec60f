pub mod Payload
pub mod Reading
pub mod Slices
pub mod Text
pub mod Written
pub mod Loading
