pub mod Takes
pub mod Rooms
