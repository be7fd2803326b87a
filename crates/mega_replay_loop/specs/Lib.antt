pub mod Headings
pub mod Replaying
pub mod Known
