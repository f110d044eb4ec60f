pub mod Printed
pub mod Texts
pub mod Recorded
pub mod Played
pub mod Written
pub mod Again
pub mod Readable
