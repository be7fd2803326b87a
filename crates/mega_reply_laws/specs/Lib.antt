pub mod Fates
pub mod Requests
pub mod Examples
