pub mod HexDigits
pub mod Joining
