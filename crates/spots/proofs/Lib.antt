pub mod Cases
pub mod Choices
pub mod Filled
pub mod Data
pub mod Entries
pub mod Walks
pub mod Rounds
pub mod Short
