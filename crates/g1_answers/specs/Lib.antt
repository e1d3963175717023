pub mod Numbers
pub mod Replies
pub mod Questions
pub mod Images
pub mod Asked
