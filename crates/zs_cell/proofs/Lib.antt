pub mod Further
pub mod Stepping
pub mod Unnumbered
