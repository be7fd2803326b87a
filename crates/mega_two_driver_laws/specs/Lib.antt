pub mod Runs
pub mod Joined
