pub mod Cutting
pub mod ChannelsHeard
pub mod PlainKeys
pub mod PlainParameters
pub mod PlainIncluding
pub mod PlainSends
pub mod PlainValues
pub mod PlainGets
pub mod PlainAnswers
pub mod PlainLiveliness
pub mod Telling
pub mod Opened
pub mod ReadsTold
pub mod Scripts
pub mod Soaking
pub mod Lines
pub mod Retelling
pub mod WordExamples
mod Linking
mod Quietly
