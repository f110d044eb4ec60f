pub mod Called
pub mod Held
pub mod Opening
pub mod Received
pub mod Through
