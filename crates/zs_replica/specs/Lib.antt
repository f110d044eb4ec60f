pub mod Told
pub mod Sides
pub mod Language
pub mod Behind
pub mod Running
pub mod Laws
pub mod Gets
