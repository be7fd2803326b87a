pub mod Chain
pub mod Rest
