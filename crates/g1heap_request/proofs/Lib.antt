pub mod Got
pub mod Checked
pub mod Reasons
pub mod Tipped
pub mod Tabled
pub mod Read
