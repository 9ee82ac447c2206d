pub mod Adjoint
pub mod Lowest
pub mod Rows
pub mod Advancing
pub mod Folding
pub mod Passing
