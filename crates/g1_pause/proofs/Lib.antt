pub mod NamedPauses
mod NoDevice
pub mod OneAnswer
pub mod CollectionSets
pub mod Following
pub mod Always
pub mod Refused
pub mod Chosen
pub mod Carried
pub mod Planning
pub mod Answered
pub mod Asking
pub mod Reported
