mod Mute
mod Following
mod Reading
mod Arriving
