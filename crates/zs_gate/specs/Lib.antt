pub mod Views
pub mod Rule
pub mod Plays
pub mod Places
pub mod Locks
pub mod Groups
