pub mod Answers
pub mod Contents
pub mod Messages
pub mod Numbers
pub mod Parts
