pub mod Split
pub mod Members
pub mod Within
pub mod Calls
pub mod Promise
