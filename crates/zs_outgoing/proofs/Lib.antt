mod Quiet
mod Given
mod Sent
