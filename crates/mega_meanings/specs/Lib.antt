pub mod Means
pub mod BuiltIn
pub mod Tables
pub mod Stores
