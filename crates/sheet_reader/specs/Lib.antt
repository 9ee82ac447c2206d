pub mod Answer
pub mod Calls
pub mod Within
