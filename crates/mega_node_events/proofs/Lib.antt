pub mod Failing
pub mod Replied
pub mod Leasing
pub mod Plain
mod Rested
pub mod Deciding
