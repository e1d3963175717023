pub mod Keeps
pub mod Lost
pub mod Order
pub mod Walk
pub mod Pause
pub mod RegionSet
pub mod Laws
pub mod Wording
