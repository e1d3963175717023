pub mod Moved
pub mod Unnamed
pub mod Paused
pub mod Made
pub mod Survived
pub mod Freed
pub mod Laws
