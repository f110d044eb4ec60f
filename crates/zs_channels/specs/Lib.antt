pub mod Channel
pub mod Told
pub mod Table
pub mod Laws
pub mod Lent
pub mod Waiting
pub mod Heard
