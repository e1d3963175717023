pub mod Claims
pub mod History
pub mod Rule
pub mod Interleaving
