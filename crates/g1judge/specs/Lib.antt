pub mod Stale
pub mod Judged
pub mod Answered
pub mod Laws
