pub mod Shown
pub mod Missed
pub mod Across
pub mod Covered
