mod Joining
mod Staying
mod Taken
mod Filled
mod Starting
