pub mod Booking
pub mod Numbering
