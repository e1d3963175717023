pub mod Values
pub mod Together
pub mod InRange
pub mod Asks
pub mod Wrong
pub mod Options
pub mod Tips
pub mod Words
