pub mod Practice
pub mod Calls
pub mod Within
pub mod Promise
