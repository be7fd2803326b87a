pub mod Entries
pub mod Messages
pub mod Rounds
pub mod Nodes
