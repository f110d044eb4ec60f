pub mod Stands
pub mod Plans
pub mod Laws
