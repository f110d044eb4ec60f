pub mod Joining
mod Printed
