pub mod Endings
pub mod Stops
pub mod Inputs
pub mod Backing
