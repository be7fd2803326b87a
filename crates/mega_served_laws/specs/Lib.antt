pub mod Alike
pub mod Pasts
pub mod Calls
pub mod Lives
pub mod Examples
