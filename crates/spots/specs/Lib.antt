pub mod Spots
pub mod Promise
pub mod Filling
