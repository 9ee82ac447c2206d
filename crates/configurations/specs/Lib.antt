pub mod Configurations
pub mod Promise
