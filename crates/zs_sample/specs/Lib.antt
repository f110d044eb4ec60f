pub mod Quality
pub mod Encoding
pub mod Sample
pub mod ErrorFields
pub mod ReplyError
pub mod Reply
pub mod Selector
