pub mod Usage
pub mod Statuses
pub mod Backups
pub mod Changes
pub mod Run
