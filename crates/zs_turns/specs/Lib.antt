pub mod Gates
pub mod Calls
pub mod Queries
pub mod Loans
