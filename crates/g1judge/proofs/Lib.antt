pub mod Reached
pub mod StaleTexts
pub mod Statuses
pub mod Texts
