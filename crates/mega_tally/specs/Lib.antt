pub mod Kinds
pub mod Reaching
pub mod Following
pub mod Deciding
pub mod Counting
