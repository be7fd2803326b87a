pub mod Keeping
pub mod Showing
pub mod Topmost
pub mod Knowing
pub mod Runs
