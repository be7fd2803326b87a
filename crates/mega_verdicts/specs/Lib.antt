pub mod Least
pub mod Owing
pub mod Refusals
pub mod Waiting
