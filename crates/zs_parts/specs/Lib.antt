pub mod Fields
pub mod Hexadecimal
pub mod Symbols
pub mod Options
pub mod Channels
pub mod Parts
