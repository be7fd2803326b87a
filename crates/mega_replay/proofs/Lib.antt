pub mod Asked
pub mod Backups
pub mod Changes
pub mod NodeHandlers
pub mod NodeStops
