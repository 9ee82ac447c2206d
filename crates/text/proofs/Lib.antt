pub mod Writing
pub mod Decimal
pub mod Fields
pub mod Lines
pub mod Promise
