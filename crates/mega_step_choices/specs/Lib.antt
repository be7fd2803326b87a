pub mod Behind
pub mod Hearing
pub mod Staging
pub mod Settings
