pub mod Used
pub mod Reaching
pub mod Sums
pub mod Counting
pub mod Parts
