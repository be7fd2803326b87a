mod Best
pub mod Burning
pub mod Chains
mod Changed
mod Filled
pub mod Leaves
mod Left
mod Moments
pub mod Outcomes
mod Rows
mod Scanned
pub mod Steps
mod Walks
