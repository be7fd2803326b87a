pub mod Reach
pub mod Notes
pub mod Marks
pub mod Picks
pub mod Owns
