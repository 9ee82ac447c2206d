pub mod Bounds
pub mod Answering
pub mod Passing
pub mod Promise
pub mod Whole
