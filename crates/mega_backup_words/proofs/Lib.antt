pub mod Endings
pub mod Statuses
pub mod Within
pub mod Parts
pub mod Results
pub mod Rows
pub mod Backings
