pub mod Carrying
pub mod Flags
pub mod Handlers
mod Held
pub mod Rooms
pub mod Undoing
