pub mod Changes
pub mod InTheTurn
pub mod InTurn
pub mod Opening
pub mod Rooms
pub mod Settling
