pub mod Outcomes
pub mod Gathering
pub mod Giving
pub mod Hexing
