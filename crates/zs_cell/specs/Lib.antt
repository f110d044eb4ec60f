pub mod Further
pub mod Keys
pub mod Places
pub mod Steps
pub mod Undeclared
pub mod Works
