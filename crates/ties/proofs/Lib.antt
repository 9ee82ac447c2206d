pub mod Symbols
pub mod Turns
pub mod Firsts
pub mod Spans
