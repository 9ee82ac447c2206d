pub mod Draws
pub mod Questions
pub mod Laws
