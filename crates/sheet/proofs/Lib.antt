pub mod Checks
pub mod Digits
pub mod Items
pub mod Forms
pub mod Bytes
pub mod Turns
pub mod Trips
pub mod Longest
