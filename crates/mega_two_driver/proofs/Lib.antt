pub mod Alone
pub mod Asked
pub mod Data
pub mod Members
pub mod Named
pub mod Sound
pub mod Unpaired
pub mod Within
