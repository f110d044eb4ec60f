pub mod Back
pub mod ToldBack
