pub mod Filling
pub mod Streams
