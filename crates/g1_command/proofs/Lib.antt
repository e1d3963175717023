pub mod Delivered
pub mod Numerals
pub mod Got
pub mod Tabled
pub mod Listed
pub mod ReadLines
pub mod Tied
pub mod Reasons
