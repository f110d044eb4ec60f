pub mod Steps
pub mod Asked
pub mod Newest
pub mod Responding
pub mod Gets
