mod Effects
mod Replies
mod Gathering
