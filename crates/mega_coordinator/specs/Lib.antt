pub mod Lease
pub mod Groups
pub mod History
pub mod Laws
