pub mod Drawings
pub mod Inputs
pub mod Known
pub mod Stops
pub mod Windows
