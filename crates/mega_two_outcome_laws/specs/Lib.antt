pub mod Places
pub mod Changes
pub mod Shown
pub mod Runs
pub mod Requests
pub mod Ready
pub mod Histories
pub mod Examples
