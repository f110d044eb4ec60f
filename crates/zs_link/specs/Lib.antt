pub mod World
pub mod Mode
pub mod Machine
pub mod Laws
