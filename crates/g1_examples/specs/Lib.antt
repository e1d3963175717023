pub mod Examples
pub mod Texts
pub mod Unnamed
pub mod Choices
