pub mod Parts
pub mod World
pub mod Driver
pub mod Atomic
