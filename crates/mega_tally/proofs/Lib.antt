pub mod Deciding
pub mod Adding
