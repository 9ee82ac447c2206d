pub mod Trellis
pub mod Rows
