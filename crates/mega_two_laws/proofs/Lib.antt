pub mod Names
pub mod Facts
pub mod Other
pub mod Own
pub mod History
pub mod Kept
pub mod Whole
