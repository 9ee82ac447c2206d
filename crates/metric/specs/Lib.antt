pub mod Row
pub mod Metric
pub mod Verdict
pub mod Cost
pub mod Right
pub mod Promise
pub mod Within
pub mod Scratch
