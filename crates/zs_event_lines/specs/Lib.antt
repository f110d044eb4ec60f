pub mod Shown
pub mod Sayable
pub mod Slots
pub mod Lines
pub mod Exchanges
pub mod Views
pub mod Laws
