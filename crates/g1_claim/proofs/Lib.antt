pub mod Kept
pub mod Totals
pub mod History
pub mod Steps
pub mod Interleaving
pub mod Seen
