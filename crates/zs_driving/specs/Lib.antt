pub mod Tasks
pub mod Languages
pub mod Driving
pub mod Errors
pub mod Statuses
