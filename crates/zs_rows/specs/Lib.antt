pub mod Ascending
pub mod Behind
pub mod Index
pub mod Numbers
pub mod Rows
