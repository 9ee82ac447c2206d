pub mod Pass
pub mod Steps
