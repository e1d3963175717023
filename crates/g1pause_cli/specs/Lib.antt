pub mod Requests
pub mod Endings
pub mod Options
pub mod Asks
