pub mod Lists
pub mod Packing
pub mod Words
pub mod Writing
pub mod Return
