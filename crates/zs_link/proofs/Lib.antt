mod Side
mod Rows
mod Machine
mod Spoken
mod Passing
