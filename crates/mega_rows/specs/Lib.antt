pub mod Lines
pub mod Trims
