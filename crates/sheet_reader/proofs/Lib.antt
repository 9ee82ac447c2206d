pub mod Places
pub mod Twos
pub mod Reading
pub mod Says
pub mod Order
pub mod Choice
