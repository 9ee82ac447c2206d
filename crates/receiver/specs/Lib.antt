pub mod Receive
pub mod Kind
pub mod Calls
pub mod Laws
pub mod Within
