pub mod Requesting
pub mod Filed
pub mod Drawing
