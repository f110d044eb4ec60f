pub mod Telling
pub mod Marks
pub mod Asking
pub mod Behind
