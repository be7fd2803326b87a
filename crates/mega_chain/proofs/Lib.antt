pub mod Chains
pub mod Records
mod Repaired
mod Torn
pub mod Written
