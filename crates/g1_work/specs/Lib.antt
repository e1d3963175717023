pub mod Each
pub mod Worker
pub mod Merge
pub mod Regions
pub mod Team
pub mod Ranges
pub mod Make
