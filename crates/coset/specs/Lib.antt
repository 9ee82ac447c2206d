pub mod Coset
pub mod Runs
