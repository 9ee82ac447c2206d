pub mod Order
pub mod Number
pub mod Promise
