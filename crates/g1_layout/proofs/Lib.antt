pub mod Lists
pub mod Laying
pub mod Counted
pub mod Forwarding
pub mod Positions
pub mod Running
pub mod Conditions
pub mod Stretches
