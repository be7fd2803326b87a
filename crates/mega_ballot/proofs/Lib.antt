pub mod Marks
pub mod Meeting
pub mod Ordered
