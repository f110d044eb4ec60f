pub mod Rows
mod Steps
mod Own
mod Owing
mod Saying
mod Dumps
mod Stepping
