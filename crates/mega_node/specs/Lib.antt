pub mod Stops
pub mod Statuses
pub mod Headers
pub mod Outside
pub mod Logs
pub mod Calls
pub mod Starting
pub mod Serving
