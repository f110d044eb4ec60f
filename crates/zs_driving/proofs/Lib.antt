pub mod Progress
pub mod Exits
pub mod Completing
pub mod Languages
