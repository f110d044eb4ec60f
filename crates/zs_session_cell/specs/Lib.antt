pub mod Core
pub mod Cells
pub mod Journals
