pub mod Texts
pub mod Progress
pub mod LastLines
pub mod Statuses
pub mod Stops
