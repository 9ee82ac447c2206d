pub mod Code
pub mod Bits
pub mod Numbers
pub mod Choice
pub mod Calls
pub mod Division
pub mod Within
pub mod Promise
