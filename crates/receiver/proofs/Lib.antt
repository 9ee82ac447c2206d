pub mod Symbols
pub mod Outcomes
pub mod Filling
pub mod Laws
