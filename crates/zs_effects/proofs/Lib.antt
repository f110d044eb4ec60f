mod Rising
mod Rows
mod Standing
mod Sending
mod Ascending
mod Answered
