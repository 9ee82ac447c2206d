pub mod Forms
pub mod Sheet
pub mod Calls
pub mod Within
pub mod Promise
