pub mod Rows
mod Steps
mod Owing
mod Lines
mod Views
