pub mod Ascending
pub mod ByKey
pub mod Numbered
pub mod Placing
pub mod Ordered
pub mod Searching
pub mod Passing
