pub mod Ranges
pub mod Given
pub mod Answered
pub mod Remade
pub mod Gathered
