pub mod Decodings
pub mod Finding
