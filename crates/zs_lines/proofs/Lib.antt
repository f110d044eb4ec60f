pub mod Cuts
pub mod FirstLine
pub mod Answering
pub mod Pieces
