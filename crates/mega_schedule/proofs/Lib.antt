pub mod BothFine
pub mod Counts
pub mod Objects
pub mod Pairs
