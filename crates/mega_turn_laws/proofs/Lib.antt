pub mod Decided
pub mod Events
pub mod Started
pub mod Steps
pub mod Turns
pub mod OwnEntries
