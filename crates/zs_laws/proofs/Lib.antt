mod Sent
mod Tested
mod Origins
mod Texts
mod Forms
mod Spelled
mod Receiving
mod Fresh
mod Around
mod Leaving
mod Picking
mod EndsLost
mod EndsOfGets
mod Handed
mod GetsHanded
mod HandedNothing
mod Naming
mod NamingLaws
mod TokensEnded
mod EndsOfTokens
mod Unended
mod TokensKnown
mod Ordered
pub mod Brought
pub mod Covered
pub mod Endings
pub mod EntityEnds
pub mod Finals
pub mod KeyNumbers
pub mod Knowing
pub mod OneMessage
pub mod Reading
pub mod Received
pub mod Recipients
pub mod ToldNumbers
pub mod Untaken
pub mod SpelledTexts
pub mod SentMessages
pub mod Sends
pub mod CoveredGroups
pub mod CoveredKeys
pub mod Silent
