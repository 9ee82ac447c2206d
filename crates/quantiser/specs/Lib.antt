pub mod Quantise
pub mod Calls
pub mod Laws
