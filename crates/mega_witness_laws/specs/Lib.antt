pub mod Schedules
pub mod Tapes
