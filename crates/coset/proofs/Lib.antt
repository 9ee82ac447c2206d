pub mod Runs
pub mod Pairs
pub mod Doubling
pub mod Columns
pub mod Least
pub mod Fitting
pub mod Tables
pub mod Search
