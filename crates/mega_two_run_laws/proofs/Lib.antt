pub mod Names
pub mod Plain
pub mod Recovering
pub mod Turns
