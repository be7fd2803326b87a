pub mod Peers
pub mod Ends
pub mod Reading
pub mod Records
pub mod Served
