pub mod Driven
pub mod Past
pub mod Saw
