pub mod Cost
pub mod Choice
pub mod Candidate
pub mod Bought
pub mod Named
pub mod Laws
