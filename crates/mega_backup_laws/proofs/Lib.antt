pub mod Puts
pub mod ReadBack
pub mod Making
pub mod Chains
pub mod Agreeing
