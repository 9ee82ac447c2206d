pub mod Tuples
pub mod Tabled
