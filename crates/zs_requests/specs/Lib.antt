pub mod Unfinished
pub mod ValueRows
pub mod RequestTable
pub mod Drawn
pub mod QueryData
pub mod QueryLoans
