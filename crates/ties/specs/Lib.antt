pub mod Ties
pub mod Turn
