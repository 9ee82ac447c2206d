pub mod Least
pub mod Trellis
pub mod Firsts
