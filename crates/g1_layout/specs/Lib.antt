pub mod Placed
pub mod Batch
pub mod Words
pub mod Forwards
pub mod Plan
pub mod Laws
