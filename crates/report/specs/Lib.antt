pub mod Listing
pub mod Calls
pub mod Within
pub mod Promise
