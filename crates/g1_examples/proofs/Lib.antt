pub mod Closed
pub mod Sorted
pub mod Inhabited
pub mod Humongous
pub mod Bought
pub mod Moving
