pub mod Headers
pub mod Inputs
