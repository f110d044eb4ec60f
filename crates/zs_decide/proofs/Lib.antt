pub mod Answered
pub mod Asking
pub mod Ended
pub mod Replies
