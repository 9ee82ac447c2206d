pub mod Text
pub mod Within
pub mod Writer
pub mod Promise
