pub mod Entries
pub mod Recording
pub mod Replaying
pub mod Machines
pub mod Running
pub mod Laws
