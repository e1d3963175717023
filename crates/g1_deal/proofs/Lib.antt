pub mod Counts
pub mod Kept
pub mod Steps
pub mod Moves
pub mod Known
pub mod Interleaving
