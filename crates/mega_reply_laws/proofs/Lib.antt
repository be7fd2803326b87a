pub mod Walk
pub mod Plain
pub mod Steps
pub mod Ending
pub mod Refusals
pub mod Serving
pub mod Twice
