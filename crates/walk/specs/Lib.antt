pub mod Walk
pub mod Turns
