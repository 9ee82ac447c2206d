pub mod Sizes
pub mod Scaled
pub mod Samples
pub mod Outcomes
pub mod Laws
pub mod Worked
