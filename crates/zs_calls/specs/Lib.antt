pub mod Publications
pub mod Gets
pub mod Replies
