pub mod Keys
pub mod TableRows
pub mod Shows
pub mod Scanning
pub mod OwnRows
pub mod Small
pub mod Served
