pub mod Dealer
pub mod Rule
pub mod Interleaving
