pub mod VersionAt
pub mod Changed
pub mod Scans
pub mod Trims
pub mod Cleans
