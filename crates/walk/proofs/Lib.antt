pub mod Rows
pub mod Shifts
pub mod Turns
pub mod Blocks
pub mod Rounds
