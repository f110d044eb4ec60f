pub mod LivelinessGets
pub mod Liveliness
pub mod RemoteTokens
pub mod Asking
