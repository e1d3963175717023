pub mod Replayed
pub mod Read
