pub mod Parents
pub mod Merging
pub mod Recounting
pub mod Counting
pub mod Moving
pub mod Answering
