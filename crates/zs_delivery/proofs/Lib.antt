pub mod Order
pub mod Accepting
pub mod Known
pub mod Handing
pub mod Made
pub mod Spelling
mod Deliveries
mod Renewed
mod Telling
mod Declared
mod Tidings
pub mod TokenMessages
mod TokensKept
mod TokensHeard
mod TokensTold
