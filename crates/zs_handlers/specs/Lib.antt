pub mod Calls
pub mod Ends
pub mod Handled
pub mod Polled
pub mod Queue
