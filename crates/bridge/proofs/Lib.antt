pub mod Layering
pub mod Weave
pub mod Engine
pub mod Bridge
pub mod Found
pub mod Traced
pub mod Foremost
