pub mod Begun
pub mod Exchange
pub mod Ends
pub mod Handlers
pub mod Flags
