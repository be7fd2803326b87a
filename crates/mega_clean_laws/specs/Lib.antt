pub mod Keeping
pub mod Reaching
pub mod Examples
