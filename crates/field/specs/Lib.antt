pub mod Field
pub mod Answers
pub mod Laws
pub mod Within
