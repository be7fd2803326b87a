pub mod Headings
pub mod Inputs
pub mod Said
pub mod Starts
pub mod Steps
pub mod Stopped
pub mod Whole
