pub mod Tests
pub mod Xor
pub mod Field
pub mod Laws
pub mod Tables
pub mod Refusals
