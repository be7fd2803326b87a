pub mod Chain
pub mod Journals
pub mod Opened
pub mod Rest
