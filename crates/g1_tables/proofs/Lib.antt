pub mod Chunks
pub mod TableText
pub mod Choosing
pub mod Counting
pub mod Summing
