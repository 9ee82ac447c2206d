pub mod Tails
pub mod Promise
