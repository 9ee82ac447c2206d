pub mod Parts
pub mod Raising
pub mod Bch
pub mod Joining
pub mod Laws
